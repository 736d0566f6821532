-- The sizes and limits of 01, "The feed" and "Which answer a record gets", as 02, orders 6, 7 and 10, amend them, each under one name;
-- src/size.rt says the same. Lengths and places follow from the parts; that they are the numbers that the documents write is said in
-- proofs/Records/Numerals. Assumes nothing.
use Rattle.std.specs.Prelude.{ℕ, ◌+◌, ◌-◌, ◌*◌}
use Rattle.cycle.specs.Size.{string_count, jet_count, manifold_count, module_count}

-- "mark 52 4D (hex)", "mark 52 4A"; a report begins 52 52
abbrev pub mark_byte : ℕ
mark_byte = 0x52

abbrev pub minor_mark : ℕ
minor_mark = 0x4D

abbrev pub major_mark : ℕ
major_mark = 0x4A

-- "a two-byte mark"
abbrev pub mark_length : ℕ
mark_length = 2

-- "commanded C (4)": a word
abbrev pub word_length : ℕ
word_length = 4

-- "wire cycle, 2 bytes"
abbrev pub wire_length : ℕ
wire_length = 2

-- "512 bytes of injector temperatures (.. fuel word then oxidizer word)": 2 bytes a word
abbrev pub temperature_length : ℕ
temperature_length = 2

-- "fuel then oxidizer, 2 bytes each"
abbrev pub quantity_length : ℕ
quantity_length = 2

-- "sum, 2 bytes"
abbrev pub sum_length : ℕ
sum_length = 2

-- "added modulo 65,536"
abbrev pub sum_span : ℕ
sum_span = 65536

-- "mark 52 4D (hex); wire cycle, 2 bytes; path byte ..; for each string 13 bytes: commanded C (4), pressure P (4), driver D (4),
-- valve-open V (1; ..)"
abbrev pub wire_at : ℕ
wire_at = mark_length

abbrev pub path_at : ℕ
path_at = wire_at + wire_length

abbrev pub samples_from : ℕ
samples_from = path_at + 1

abbrev pub valves_in : ℕ
valves_in = 3 * word_length

abbrev pub sample_length : ℕ
sample_length = valves_in + 1

-- "sum, 2 bytes: all earlier bytes of the record"
abbrev pub minor_summed : ℕ
minor_summed = samples_from + string_count * sample_length

-- "Minor record, 59 bytes"
abbrev pub minor_length : ℕ
minor_length = minor_summed + sum_length

-- "the same 55 bytes after the mark; 512 bytes of injector temperatures (string by string, jet by jet, fuel word then oxidizer word)"
abbrev pub temperatures_from : ℕ
temperatures_from = minor_summed

abbrev pub temperature_count : ℕ
temperature_count = 2 * jet_count

abbrev pub temperatures_length : ℕ
temperatures_length = temperature_count * temperature_length

-- "for each string an inhibit word and a re-enable word (4 bytes each)"
abbrev pub requests_from : ℕ
requests_from = temperatures_from + string_count * temperatures_length

abbrev pub requests_length : ℕ
requests_length = 2 * word_length

-- 02, order 6: "one byte a string after the re-enable words of all strings"
abbrev pub drops_from : ℕ
drops_from = requests_from + string_count * requests_length

-- "for each module fuel then oxidizer, 2 bytes each"
abbrev pub quantities_from : ℕ
quantities_from = drops_from + string_count

abbrev pub quantities_length : ℕ
quantities_length = 2 * quantity_length

-- "the sum"
abbrev pub major_summed : ℕ
major_summed = quantities_from + module_count * quantities_length

-- 02, order 6: "The record is now 619 bytes"
abbrev pub major_length : ℕ
major_length = major_summed + sum_length

-- no record is shorter
abbrev pub least_length : ℕ
least_length = minor_length

-- none is longer; 02, order 6: "the reader holds at most 618"
abbrev pub store_length : ℕ
store_length = major_length

abbrev pub most_held : ℕ
most_held = store_length - 1

-- "path byte (..; bits 4 to 7 zero)"; 02, order 7: "the path byte's stays"
abbrev pub reserved_from : ℕ
reserved_from = 16

-- "in tenths of a percent, at most 1,000"
abbrev pub most_quantity : ℕ
most_quantity = 1000

-- "52 52; answer; n after it (4)"
abbrev pub answer_at : ℕ
answer_at = mark_length

abbrev pub count_at : ℕ
count_at = answer_at + 1

abbrev pub count_length : ℕ
count_length = 4

-- "Each string's five bytes are written into their own part of the outbox"
abbrev pub strings_from : ℕ
strings_from = count_at + count_length

-- "for each string the fail word (4) and close byte (1)"
abbrev pub string_part : ℕ
string_part = word_length + 1

-- "balance byte; three lesser quantities (2 each)"
abbrev pub balance_at : ℕ
balance_at = strings_from + string_count * string_part

abbrev pub lesser_from : ℕ
lesser_from = balance_at + 1

abbrev pub lesser_length : ℕ
lesser_length = quantity_length

-- 02, order 10: "the report carries three of them, 2 bytes each .., after the lesser quantities"
abbrev pub differences_from : ℕ
differences_from = lesser_from + module_count * lesser_length

abbrev pub difference_length : ℕ
difference_length = quantity_length

-- "bit 4+m if its oxidizer is the lesser"
abbrev pub oxidizer_from : ℕ
oxidizer_from = 4

-- 02, order 10: "A report is 40 bytes"
abbrev pub report_length : ℕ
report_length = differences_from + module_count * difference_length

-- 02, order 10: "answer 5 means under 40"
abbrev pub outbox_needed : ℕ
outbox_needed = report_length

-- 02, order 7: "thirty-two masks", "128 bytes of masks": a word for each manifold of each string
abbrev pub masks_length : ℕ
masks_length = manifold_count * word_length

abbrev pub map_length : ℕ
map_length = string_count * masks_length
