use Rattle.std.specs.HashMap.{HashMap}
use Rattle.smallvec.specs.SmallVec.{SmallVec}
use Rattle.acta_sets.specs.declared.counts.Counts.{Counts}
use Rattle.acta_sets.specs.declared.listing.ModeList.{ModeList}
use Rattle.acta_sets.specs.declared.mode.ModeKey.{ModeKey}
use Rattle.acta_sets.specs.inside.Indexed.{IsIndexed}
use Rattle.std.specs.Prelude.{ℕ, List, ◌≡◌, ◌+◌, [], ◌∷◌, ◌++◌, length, if◌then◌else◌}
use Rattle.std.proofs.Common.{arith, rules, refl, sym, ap, ◌∙◌, subst}
use Rattle.acta_table.specs.declared.answer.Fate.TheVariants.{InProgress}
use Rattle.acta_sets.specs.declared.held_op.HeldOp.{HeldOp}
use Rattle.acta_sets.specs.inside.Held.{AreHeld, AreAmong, list_at}
use Rattle.acta_sets.specs.inside.Filing.{AreFiled, count}
use Rattle.acta_sets.proofs.Access.{AreHeld-added, AreHeld-same}
use Rattle.acta_sets.specs.inside.Modes.{coarse, listed_fine}
use Rattle.acta_sets.specs.inside.Listing.{AreListed, FrontsHold, is_key, numbers_in, in_table, in_map, front_in}
use Rattle.acta_sets.proofs.Listed.{AreListed-same, AreListed-more, FrontsHold-same, FrontsHold-added}
use Rattle.acta_sets.proofs.Filed.{filed_small, AreFiled-same, AreFiled-added}
use Rattle.acta_sets.proofs.table.OpTable.add.Goals as goal

-- the invariant after a call that has run out of memory: nothing that contracts see has changed
still : {A S : Type 0} (items after : List HeldOp) (ls ls' : List (SmallVec ℕ)) (keys keys' : List ℕ) (m m' : Counts A) (t t' : List (ModeList A)) (f f' : HashMap ModeKey (ModeList A) S)
    → IsIndexed items ls keys m t f → after ≡ items → ((v : ℕ) → list_at ls' v ≡ list_at ls v) → AreAmong ls' keys' → ((q : ModeKey) → count m' q ≡ count m q)
    → ((q : ModeKey) → numbers_in (in_table t') q ≡ numbers_in (in_table t) q) → ((q : ModeKey) → front_in (in_table t') q ≡ front_in (in_table t) q)
    → ((q : ModeKey) → numbers_in (in_map f') q ≡ numbers_in (in_map f) q) → ((q : ModeKey) → front_in (in_map f') q ≡ front_in (in_map f) q) → IsIndexed after ls' keys' m' t' f'
still items after ls ls' keys keys' m m' t t' f f' is same lists among counts numbers fronts fine_numbers fine_fronts =
    subst (λ xs. IsIndexed xs ls' keys' m' t' f') (sym same) (record {
      few = is.few;
      held = AreHeld-same items ls ls' is.held lists;
      among = among;
      filed = AreFiled-same items m m' is.filed counts;
      coarse = AreListed-same coarse items (in_table t) (in_table t') is.coarse numbers;
      coarse_fronts = FrontsHold-same items (in_table t) (in_table t') is.coarse_fronts numbers fronts;
      fine = AreListed-same listed_fine items (in_map f) (in_map f') is.fine fine_numbers;
      fine_fronts = FrontsHold-same items (in_map f) (in_map f') is.fine_fronts fine_numbers fine_fronts;
    })

pub invariant_of-self-in_err-make_place : goal.invariant_of-self-in_err-make_place
invariant_of-self-in_err-make_place g c =
    let is = c.self.inside in
    still is.items.items c.reserve.new.self.items is.held.items is.held.items is.holders.keys is.holders.keys is.counts is.counts is.coarse.items c.make_place.new.lists.items is.fine is.fine c.self.invariant
    c.reserve.ensures.items (λ v. refl) c.self.invariant.among (λ q. refl) c.make_place.ensures.numbers c.make_place.ensures.fronts (λ q. refl) (λ q. refl)

pub invariant_of-self-in_err-make_place-2 : goal.invariant_of-self-in_err-make_place-2
invariant_of-self-in_err-make_place-2 g c =
    let is = c.self.inside in
    still is.items.items c.reserve.new.self.items is.held.items is.held.items is.holders.keys is.holders.keys is.counts is.counts is.coarse.items c.make_place.new.lists.items is.fine c.make_place-2.new.lists c.self.invariant
    c.reserve.ensures.items (λ v. refl) c.self.invariant.among (λ q. refl) c.make_place.ensures.numbers c.make_place.ensures.fronts c.make_place-2.ensures.numbers c.make_place-2.ensures.fronts

pub invariant_of-self-in_err-make_totals : goal.invariant_of-self-in_err-make_totals
invariant_of-self-in_err-make_totals g c =
    let is = c.self.inside in
    still is.items.items c.reserve.new.self.items is.held.items is.held.items is.holders.keys is.holders.keys is.counts c.make_totals.new.counts is.coarse.items c.make_place.new.lists.items is.fine c.make_place-2.new.lists c.self.invariant
    c.reserve.ensures.items (λ v. refl) c.self.invariant.among c.make_totals.ensures.same c.make_place.ensures.numbers c.make_place.ensures.fronts c.make_place-2.ensures.numbers c.make_place-2.ensures.fronts

pub invariant_of-self-in_err-make_room : goal.invariant_of-self-in_err-make_room
invariant_of-self-in_err-make_room g c =
    let is = c.self.inside in
    still is.items.items c.reserve.new.self.items is.held.items is.held.items is.holders.keys is.holders.keys is.counts c.make_room.new.counts is.coarse.items c.make_place.new.lists.items is.fine c.make_place-2.new.lists c.self.invariant
    c.reserve.ensures.items (λ v. refl) c.self.invariant.among (λ q. c.make_room.ensures.same q ∙ c.make_totals.ensures.same q) c.make_place.ensures.numbers c.make_place.ensures.fronts c.make_place-2.ensures.numbers c.make_place-2.ensures.fronts

pub invariant_of-self-in_err-add_held : goal.invariant_of-self-in_err-add_held
invariant_of-self-in_err-add_held g c =
    let is = c.self.inside in
    still is.items.items c.reserve.new.self.items is.held.items c.add_held.new.held.items is.holders.keys c.add_held.new.holders.keys is.counts c.make_room.new.counts is.coarse.items c.make_place.new.lists.items is.fine c.make_place-2.new.lists c.self.invariant
    c.reserve.ensures.items c.in_err-add_held.ensures.err (c.in_err-add_held.ensures.still c.self.invariant.among) (λ q. c.make_room.ensures.same q ∙ c.make_totals.ensures.same q) c.make_place.ensures.numbers c.make_place.ensures.fronts c.make_place-2.ensures.numbers c.make_place-2.ensures.fronts

pub count_in-requires-clause-small : goal.count_in-requires-clause-small
count_in-requires-clause-small g c = λ q. omega (arith, c.self.invariant.few, filed_small c.self.inside.items.items c.self.inside.counts c.self.invariant.filed q, c.make_totals.ensures.same q, c.make_room.ensures.same q)

pub invariant_of-self-2 : goal.invariant_of-self-2
invariant_of-self-2 g c =
    let x : HeldOp = record { ob = c.args.ob; op = c.args.op; holder = c.args.t; fate = InProgress } in
    let items = c.self.inside.items.items in
    let long : c.len.result ≡ length items = search rules in
    let number : c.len.result + 1 ≡ 1 + length items = omega arith in
    let added = AreHeld-added items c.self.inside.held.items c.add_held.new.held.items x (c.len.result + 1) number c.self.invariant.held refl c.in_ok-add_held.ensures.ok in
    let filed = AreFiled-added items c.make_room.new.counts c.count_in.new.counts x refl (AreFiled-same items c.self.inside.counts c.make_room.new.counts c.self.invariant.filed (λ q. c.make_room.ensures.same q ∙ c.make_totals.ensures.same q)) c.count_in.ensures in
    let after = c.push_reserved.ensures.items ∙ ap (λ xs. xs ++ x ∷ []) c.reserve.ensures.items in
    record {
      few = search rules;
      held = subst (λ xs. AreHeld xs c.add_held.new.held.items) (sym after) added;
      among = c.in_ok-add_held.ensures.among c.self.invariant.among;
      filed = subst (λ xs. AreFiled xs c.count_in.new.counts) (sym after) filed;
      coarse = subst (λ xs. AreListed coarse xs (in_table c.list_under.new.lists.items)) (sym after)
          (AreListed-more coarse items (in_table c.make_place.new.lists.items) (in_table c.list_under.new.lists.items) x (c.len.result + 1) number (AreListed-same coarse items (in_table c.self.inside.coarse.items) (in_table c.make_place.new.lists.items) c.self.invariant.coarse c.make_place.ensures.numbers)
          (λ q. c.list_under.ensures.numbers q ∙ ap (λ o. if is_key q c.args.ob.0 o then numbers_in (in_table c.make_place.new.lists.items) q ++ (c.len.result + 1) ∷ [] else numbers_in (in_table c.make_place.new.lists.items) q) c.coarse-coarse.ensures.mode));
      coarse_fronts = subst (λ xs. FrontsHold xs (in_table c.list_under.new.lists.items)) (sym after)
          (FrontsHold-added coarse items (in_table c.make_place.new.lists.items) (in_table c.list_under.new.lists.items) x (c.len.result + 1) (FrontsHold-same items (in_table c.self.inside.coarse.items) (in_table c.make_place.new.lists.items) c.self.invariant.coarse_fronts c.make_place.ensures.numbers c.make_place.ensures.fronts)
          (λ q. c.list_under.ensures.numbers q ∙ ap (λ o. if is_key q c.args.ob.0 o then numbers_in (in_table c.make_place.new.lists.items) q ++ (c.len.result + 1) ∷ [] else numbers_in (in_table c.make_place.new.lists.items) q) c.coarse-coarse.ensures.mode)
          c.list_under.ensures.fronts);
      fine = subst (λ xs. AreListed listed_fine xs (in_map c.list_under-2.new.lists)) (sym after)
          (AreListed-more listed_fine items (in_map c.make_place-2.new.lists) (in_map c.list_under-2.new.lists) x (c.len.result + 1) number (AreListed-same listed_fine items (in_map c.self.inside.fine) (in_map c.make_place-2.new.lists) c.self.invariant.fine c.make_place-2.ensures.numbers)
          (λ q. c.list_under-2.ensures.numbers q ∙ ap (λ o. if is_key q c.args.ob.0 o then numbers_in (in_map c.make_place-2.new.lists) q ++ (c.len.result + 1) ∷ [] else numbers_in (in_map c.make_place-2.new.lists) q) c.listed_fine-fine.ensures));
      fine_fronts = subst (λ xs. FrontsHold xs (in_map c.list_under-2.new.lists)) (sym after)
          (FrontsHold-added listed_fine items (in_map c.make_place-2.new.lists) (in_map c.list_under-2.new.lists) x (c.len.result + 1) (FrontsHold-same items (in_map c.self.inside.fine) (in_map c.make_place-2.new.lists) c.self.invariant.fine_fronts c.make_place-2.ensures.numbers c.make_place-2.ensures.fronts)
          (λ q. c.list_under-2.ensures.numbers q ∙ ap (λ o. if is_key q c.args.ob.0 o then numbers_in (in_map c.make_place-2.new.lists) q ++ (c.len.result + 1) ∷ [] else numbers_in (in_map c.make_place-2.new.lists) q) c.listed_fine-fine.ensures)
          c.list_under-2.ensures.fronts);
    }
