-- What a trace tells of lists of a card's steps: each is the machine's list of its calls, and those of lists that are alike leave the same trace.
-- Assumes nothing.
use mathlib.Core.Path.{◌≡◌, refl, ap, sym, ◌∙◌}
use mathlib.Core.List.{List, map}
use Rattle.machine.specs.Machine.{Call, fresh_machine, fresh_card}
use Rattle.machine.specs.Calls.{Made, machine_run, calls_of}
use Rattle.lists.specs.Steps.{Steps}
use Rattle.lists.proofs.Steps.{steps-one-stream}
use Rattle.trace.specs.Trace.{traced, AlikeLists, AllShare}
use Rattle.trace.proofs.Shared.{same-trace}
use Rattle.trace.proofs.Bytes.{all_share}

module _ (xs ys : List Made) (h : Steps fresh_card xs) (k : Steps fresh_card ys) where
  -- Two lists whose calls share what decisions read.
  pub steps-same-trace : AllShare fresh_machine (calls_of xs) (calls_of ys) → map traced xs ≡ map traced ys
  steps-same-trace s = ap (map traced) (steps-one-stream xs h).machine-is ∙ same-trace s fresh_machine refl ∙ sym (ap (map traced) (steps-one-stream ys k).machine-is)

  -- Two lists whose calls are alike but for data and for the key and IV bytes that are used.
  pub steps-tell-nothing : AlikeLists (calls_of xs) (calls_of ys) → map traced xs ≡ map traced ys
  steps-tell-nothing s = steps-same-trace (all_share (calls_of xs) (calls_of ys) fresh_machine s)
