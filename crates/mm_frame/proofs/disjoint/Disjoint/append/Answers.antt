use Rattle.std.proofs.Common.{rules, ◌≡◌, ℕ, true, length, [], ◌∷◌, ◌++◌, Result, Ok, Err, IfOk, ap}
use Rattle.std.proofs.Common.{sym, ◌∙◌, arith, subst}
use Rattle.std.specs.Prelude.{if◌then◌else◌, is_ok}
use Rattle.std.proofs.lemmas.List.{map-append, length-map}
use Rattle.mm_frame.specs.PlainFrames.{has_number, items_of, groups_of}
use Rattle.mm_frame.specs.Listed.{list_of, AreListed, with_place}
use Rattle.mm_frame.proofs.Listing.{listed-pushed}
use Rattle.mm_frame.proofs.disjoint.Disjoint.append.Goals as goal

where-ok : {T E : Type 0} (Q : Type 0) (r : Result T E) → is_ok r ≡ true → IfOk r (λ _. Q) → Q
where-ok Q (Ok x) is q = q
where-ok Q (Err e) is q = absurd (cc)

pub invariant_of-self-then-is_ok : goal.invariant_of-self-then-is_ok
invariant_of-self-then-is_ok c =
    let before = c.args.self.now.groups.items in
    let old = c.args.self.now.places.items in
    let new = c.list_all.new.lists.items in
    let place = c.len-place.result in
    let items : c.push.new.self.items ≡ before ++ c.args.group ∷ [] = search rules in
    let size : place ≡ length (groups_of before) =
    omega (arith, c.len-place.ensures, length-map before items_of) in
    let passed : is_ok c.list_all.result ≡ true = search rules in
    let grown : (n : ℕ) → list_of new n ≡ (if has_number c.deref-3.result.now n
    then with_place place (list_of old n) else list_of old n) =
    where-ok _ c.list_all.result passed c.list_all.ensures in
    let listed : AreListed (groups_of before ++ c.args.group.items ∷ []) new =
    listed-pushed (groups_of before) c.args.group.items old new place size
    c.args.self.now.listed
    (subst (λ ns. (n : ℕ)
    → list_of new n
    ≡ (if has_number ns n then with_place place (list_of old n) else list_of old n))
    c.deref-3.ensures.value grown) in
    record {
      listed =
          subst (λ gs. AreListed gs new)
          (sym (ap groups_of items ∙ map-append items_of before (c.args.group ∷ []))) listed;
    }
