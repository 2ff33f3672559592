use Rattle.std.proofs.Common.{◌≡◌, ℕ, length, [], ◌∷◌, ◌++◌, ap, ◌∙◌, arith, subst}
use Rattle.std.specs.Prelude.{if◌then◌else◌}
use Rattle.std.proofs.lemmas.List.{map-append, length-map}
use Rattle.mm_frame.specs.PlainFrames.{has_number, items_of, groups_of}
use Rattle.mm_frame.specs.Listed.{list_of, AreListed, without_place}
use Rattle.mm_frame.proofs.Listing.{listed-once, listed-popped}
use Rattle.mm_frame.proofs.disjoint.Disjoint.pop.Goals as goal

listed : (c : goal.After-len)
    → AreListed (groups_of c.pop.new.self.items ++ c.in-Some.group.items ∷ [])
    c.args.self.now.places.items
listed c =
    subst (λ gs. AreListed gs c.args.self.now.places.items) (ap groups_of c.in-Some.ensures.items
    ∙ map-append items_of c.pop.new.self.items (c.in-Some.group ∷ []))
    c.args.self.now.listed

size : (c : goal.After-len) → c.len.result ≡ length (groups_of c.pop.new.self.items)
size c = omega (arith, c.len.ensures, length-map c.pop.new.self.items items_of)

pub unlist_all-requires : goal.unlist_all-requires
unlist_all-requires c =
    listed-once (groups_of c.pop.new.self.items) c.in-Some.group.items c.args.self.now.places.items
    c.len.result (size c) (listed c)

pub invariant_of-self : goal.invariant_of-self
invariant_of-self c =
    let group : c.deref.result.now ≡ c.in-Some.group.items = c.deref.ensures.value in
    record {
      listed =
          listed-popped (groups_of c.pop.new.self.items) c.in-Some.group.items
          c.args.self.now.places.items c.unlist_all.new.lists.items c.len.result (size c.before)
          (listed c.before)
          (subst (λ ns. (n : ℕ)
          → list_of c.unlist_all.new.lists.items n
          ≡ (if has_number ns n
          then without_place c.len.result (list_of c.args.self.now.places.items n)
          else list_of c.args.self.now.places.items n)) group c.unlist_all.ensures);
    }
