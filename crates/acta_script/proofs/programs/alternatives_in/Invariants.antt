use Rattle.std.proofs.Common.{◌≡◌, All, map, drop}
use Rattle.acta_script.specs.Laws.{IsInModel}
use Rattle.acta_script.specs.Reading.{alternatives_in}
use Rattle.acta_script.proofs.Alternatives.{with_left}
use Rattle.acta_script.proofs.programs.alternatives_in.Given as goal

-- the result so far, combined with the remaining parts, is the result of all parts
abbrev pub invariant-loop-part : goal.invariant-loop-part
invariant-loop-part g l = record {
  found : with_left l.events.items l.fault (alternatives_in l.model (map (λ part. map (λ word. word.now) part.now) (drop l.part-index l.parts))) ≡ alternatives_in l.model (map (λ part. map (λ word. word.now) part.now) l.parts);
  in_model : All (IsInModel l.model) l.events.items;
}
