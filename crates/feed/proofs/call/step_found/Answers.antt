-- `feed::call::step_found` meets its contract. Assumes nothing.
use Rattle.std.proofs.Common.{ap, ◌∙◌}
use Rattle.feed.specs.Step.{is_whole, step_of}
use Rattle.feed.proofs.call.step_found.Goals as goal

pub step_whole-requires : goal.step_whole-requires
step_whole-requires c = ap is_whole c.found_bytes.ensures ∙ c.requires.piece_value

pub returns : goal.returns
returns c =
    c.step_whole.ensures ∙ ap (λ l. step_of l c.args.hall) c.found_bytes.ensures
