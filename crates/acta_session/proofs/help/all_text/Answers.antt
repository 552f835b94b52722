use Rattle.std.proofs.Common.{◌≡◌, ◌++◌, ◌∷◌, [], ◌∙◌, ap, sym, subst, codes, ℕ, List, rules}
use Rattle.std.proofs.lemmas.List.{append_assoc}
use Rattle.acta_session.specs.Help.{IsListOf}
use Rattle.acta_session.proofs.help.all_text.Goals as goal

pub returns : goal.returns
returns g c = record {
  events = c.in_ok-push_all.ensures.0;
  commands = c.in_ok-push_all-2.ensures.0;
  last = codes "`help WORD` explains the line that begins with the word" ++ 10 ∷ [];
  all_events = subst (λ (forms : List (List ℕ)). IsListOf forms c.in_ok-push_all.ensures.0) c.events.ensures c.in_ok-push_all.ensures.2;
  all_commands = subst (λ (forms : List (List ℕ)). IsListOf forms c.in_ok-push_all-2.ensures.0) c.commands.ensures c.in_ok-push_all-2.ensures.2;
  whole = grind (rules, c.in_ok-extend_from_slice.ensures.items, c.in_ok-push_all.ensures.1, c.in_ok-extend_from_slice-2.ensures.items, c.in_ok-push_all-2.ensures.1, c.in_ok-extend_from_slice-3.ensures.items, c.new-text.ensures.items, append_assoc);
}
