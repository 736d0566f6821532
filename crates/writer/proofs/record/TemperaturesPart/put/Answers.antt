-- `writer::record::TemperaturesPart::put` meets its contract. Assumes nothing.
use Rattle.std.proofs.Common.{◌∙◌, rules}
use Rattle.feed.specs.Size.{temperature_count}
use Rattle.feed.specs.Bytes.{in_two}
use Rattle.writer.specs.RecordBytes.{words_bytes}
use Rattle.feed.proofs.Reports.PutEach.{each-parts}
use Rattle.writer.proofs.record.TemperaturesPart.put.Goals as goal

pub returns : goal.returns
unfolding words_bytes
returns c = c.put_each.ensures ∙ each-parts in_two c.args.self.words 0 temperature_count (search (rules, c.well_formed))
