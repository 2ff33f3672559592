use Rattle.std.proofs.Common.{rules, ◌≡◌, true, subst, Option, ℕ}
use Rattle.std.specs.Prelude.{Some, IfSome}
use Rattle.std.specs.Global.{Vec, Global}
use Rattle.std.specs.List.{list_all}
use Rattle.std.specs.declared.rc.Rc.{Rc}
use Rattle.mm_frame.specs.PlainFrames.{groups_of}
use Rattle.mm_frame.specs.HypothesesView.{hypotheses_in}
use Rattle.mm_frame.specs.DisjointView.{groups_in}
use Rattle.mm_scope.specs.Sharing.{ArePairs, groups_at, is_free_number}
use Rattle.mm_scope.proofs.CommonPairs.{pairs-essential}
use Rattle.mm_scope.proofs.scopes.Scopes.pairs_with.Goals as goal

pub returns-in_ok-clone-in-Some : goal.returns-in_ok-clone-in-Some
returns-in_ok-clone-in-Some c = λ l are.
    let hs = hypotheses_in c.args.self.now.hyps in
    let gs = groups_in c.args.self.now.disjoint in
    let kept = c.in_ok-clone-in-Some.field-0.value in
    let found : c.args.common.now.pairs ≡ Some c.in-Some.pairs = search rules in
    let free : list_all (is_free_number hs gs) c.args.statement.now ≡ true = search rules in
    let same : c.in-Some.pairs.value ≡ kept = search rules in
    let was : ArePairs hs gs (groups_of c.in-Some.pairs.value.items) =
    subst (λ (o : Option (Rc (Vec (Vec ℕ)) Global)). IfSome (groups_at o) (ArePairs hs gs))
    found are in
    pairs-essential hs gs l c.args.statement.now (Some (groups_of kept.items)) free
    (subst (λ (v : Vec (Vec ℕ)). ArePairs hs gs (groups_of v.items)) same was)
