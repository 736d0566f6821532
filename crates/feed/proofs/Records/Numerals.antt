-- The lengths and places of `Size` in the numerals that documents 01 and 02 write or that the parts add up to. Only these laws, and the
-- files that speak in the documents' own numerals, know them. Assumes nothing.
use Rattle.std.proofs.Common.{◌≡◌, ◌-◌, ◌*◌, refl}
use Rattle.cycle.specs.Size.{string_count}
use Rattle.feed.specs.Size.{mark_length, wire_at, path_at, samples_from, valves_in, sample_length, minor_summed, minor_length}
use Rattle.feed.specs.Size.{temperatures_from, temperature_count, temperatures_length, requests_from, requests_length, drops_from}
use Rattle.feed.specs.Size.{quantities_from, quantities_length, major_summed, major_length, least_length, store_length, most_held, answer_at}
use Rattle.feed.specs.Size.{count_at}
use Rattle.feed.specs.Size.{strings_from, string_part, balance_at, lesser_from, lesser_length, differences_from, difference_length}
use Rattle.feed.specs.Size.{oxidizer_from, report_length, outbox_needed}
use Rattle.feed.specs.Size.{masks_length, map_length}

-- ---- a record

pub wire-at : wire_at ≡ 2
wire-at = refl

pub path-at : path_at ≡ 4
path-at = refl

pub samples-from : samples_from ≡ 5
samples-from = refl

pub valves-in : valves_in ≡ 12
valves-in = refl

pub sample-length : sample_length ≡ 13
sample-length = refl

pub minor-summed : minor_summed ≡ 57
minor-summed = refl

-- "the same 55 bytes after the mark"
pub same_bytes : minor_summed - mark_length ≡ 55
same_bytes = refl

pub minor-length : minor_length ≡ 59
minor-length = refl

pub temperatures-from : temperatures_from ≡ 57
temperatures-from = refl

pub temperature-count : temperature_count ≡ 64
temperature-count = refl

pub temperatures-length : temperatures_length ≡ 128
temperatures-length = refl

-- "512 bytes of injector temperatures"
pub temperatures-whole : string_count * temperatures_length ≡ 512
temperatures-whole = refl

pub requests-from : requests_from ≡ 569
requests-from = refl

pub requests-length : requests_length ≡ 8
requests-length = refl

pub drops-from : drops_from ≡ 601
drops-from = refl

pub quantities-from : quantities_from ≡ 605
quantities-from = refl

pub quantities-length : quantities_length ≡ 4
quantities-length = refl

pub major-summed : major_summed ≡ 617
major-summed = refl

pub major-length : major_length ≡ 619
major-length = refl

-- ---- the reader

pub least-length : least_length ≡ 59
least-length = refl

pub store_length_lem : store_length ≡ 619
store_length_lem = refl

pub most-held : most_held ≡ 618
most-held = refl

-- ---- a report

pub answer_at_lem : answer_at ≡ 2
answer_at_lem = refl

pub count_at_lem : count_at ≡ 3
count_at_lem = refl

pub strings-from : strings_from ≡ 7
strings-from = refl

pub string-part : string_part ≡ 5
string-part = refl

pub balance-at : balance_at ≡ 27
balance-at = refl

pub lesser-from : lesser_from ≡ 28
lesser-from = refl

pub lesser-length : lesser_length ≡ 2
lesser-length = refl

pub differences-from : differences_from ≡ 34
differences-from = refl

pub difference-length : difference_length ≡ 2
difference-length = refl

pub oxidizer-from : oxidizer_from ≡ 4
oxidizer-from = refl

pub report-length : report_length ≡ 40
report-length = refl

pub outbox-needed : outbox_needed ≡ 40
outbox-needed = refl

-- ---- the map

pub masks-length : masks_length ≡ 32
masks-length = refl

pub map-length : map_length ≡ 128
map-length = refl
