use Rattle.std.proofs.Common.{rules, ◌≡◌, [], sym, ◌∙◌, subst}
use Rattle.std.specs.Prelude.{slice_get, Some, None}
use Rattle.std.specs.List.Sorted.{IsStrictlyIncreasing}
use Rattle.mm_frame.specs.DisjointView.{groups_in}
use Rattle.mm_frame.specs.Listed.{group_places}
use Rattle.mm_frame.proofs.Listing.{list_of-none, list_of-found, group_places-increase}
use Rattle.mm_frame.proofs.disjoint.Disjoint.listed.Goals as goal

pub returns-in-None : goal.returns-in-None
returns-in-None c =
    let none : slice_get c.args.self.now.places.items c.args.n ≡ None = search rules in
    let is : [] ≡ group_places (groups_in c.args.self.now) c.args.n =
    sym (list_of-none c.args.self.now.places.items c.args.n none)
    ∙ c.args.self.now.listed c.args.n in
    record {
      places = is;
      ascending =
          subst IsStrictlyIncreasing (sym is)
          (group_places-increase (groups_in c.args.self.now) c.args.n);
    }

pub returns-in-Some : goal.returns-in-Some
returns-in-Some c =
    let found : slice_get c.args.self.now.places.items c.args.n ≡ Some c.in-Some.list.now =
    search rules in
    let is : c.deref-in-Some.result.now ≡ group_places (groups_in c.args.self.now) c.args.n =
    c.deref-in-Some.ensures.value
    ∙ sym (list_of-found c.args.self.now.places.items c.args.n c.in-Some.list.now found)
    ∙ c.args.self.now.listed c.args.n in
    record {
      places = is;
      ascending =
          subst IsStrictlyIncreasing (sym is)
          (group_places-increase (groups_in c.args.self.now) c.args.n);
    }
