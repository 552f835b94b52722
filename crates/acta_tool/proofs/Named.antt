-- What was read of the words, from what `clap` gives of it.
use Rattle.std.proofs.Common.{◌≡◌, Bool, Option, Some, None, false, sym, ap, ap₂, ◌∙◌, option_map, codes, unwrap_or}
use Rattle.std.specs.Option.{option_map_or}
use Rattle.std.specs.Str.{bytes_eq}
use Rattle.clap.specs.Words.{Text, first_value, found_of, rows_of, subcommand_name_of, subcommand_rows_of}
use Rattle.clap.specs.declared.parser.matches.ArgMatches.{ArgMatches}
use Rattle.clap.proofs.WalkLemmas.{first_value-rows}
use Rattle.acta_tool.specs.CommandLines.{Named, named_in}

both : {X A B : Type 0} (f : X → A) (g : X → B) (o : Option X) (a : A) (b : B) → Some a ≡ option_map f o → Some b ≡ option_map (λ (p : A × B). p.1) (option_map {U = A × B} (λ x. (f x, g x)) o) → option_map {U = A × B} (λ x. (f x, g x)) o ≡ Some (a, b)
both f g None a b h k = cc
both {A = A} {B = B} f g (Some x) a b h k =
    let first : f x ≡ a = ap (λ o. unwrap_or o a) (sym h) in
    let second : g x ≡ b = ap (λ o. unwrap_or o b) (sym k) in
    let pair : A → B → Option (A × B) = λ s t. Some (s, t) in
    ap₂ pair first second

-- whether the flag `--kept` was read
abbrev is_kept_in : Option Text → Bool
is_kept_in value = option_map_or (bytes_eq (codes "true")) value false

-- the subcommand that was met, and what was read of its flag, its workers, its turns and its model
pub named_is : (m inner : ArgMatches) (command : Text) (is_kept : Bool) (workers watch model : Option Text) → Some command ≡ subcommand_name_of m → Some (rows_of (found_of inner)) ≡ option_map (λ p. p.1) (subcommand_rows_of m)
    → is_kept ≡ option_map_or (bytes_eq (codes "true")) (first_value (found_of inner) (codes "kept")) false
    → workers ≡ first_value (found_of inner) (codes "workers") → watch ≡ first_value (found_of inner) (codes "watch") → model ≡ first_value (found_of inner) (codes "MODEL")
    → option_map {U = Named} (λ t. record { command = command; is_kept = is_kept; workers = workers; watch = watch; model = t }) model ≡ named_in (subcommand_rows_of m)
named_is m inner command is_kept workers watch model h k flag seats turns e =
    let kept = flag ∙ ap is_kept_in (first_value-rows (found_of inner) (codes "kept")) in
    let seated = seats ∙ first_value-rows (found_of inner) (codes "workers") in
    let watched = turns ∙ first_value-rows (found_of inner) (codes "watch") in
    let named = e ∙ first_value-rows (found_of inner) (codes "MODEL") in
    (λ i. option_map {U = Named} (λ t. record { command = command; is_kept = kept i; workers = seated i; watch = watched i; model = t }) (named i))
    ∙ sym (ap named_in (both _ _ _ command (rows_of (found_of inner)) h k))
