use Rattle.std.proofs.Common.{rules, arith, ◌≡◌, ◌<◌, ◌+◌, ℕ, suc, [], ◌∷◌, length, drop, drop-cons}
use Rattle.std.proofs.Common.{ap, sym, ◌∙◌}
use Rattle.std.specs.Prelude.{filter}
use Rattle.std.specs.Global.{Vec}
use Rattle.std.specs.List.{list_any}
use Rattle.std.proofs.lemmas.List.{drop_all}
use Rattle.mm_frame.specs.PlainFrames.{in_group, in_groups, groups_of}
use Rattle.mm_frame.specs.HypothesesView.{hypotheses_in}
use Rattle.mm_frame.specs.DisjointView.{groups_in}
use Rattle.mm_scope.specs.Sharing.{is_wanted_number}
use Rattle.mm_frame.proofs.Apartness.{any-step, any-end}
use Rattle.mm_scope.proofs.CommonPairs.{wanted_pair, wanted-pairs, pairs-restricted}
use Rattle.mm_scope.proofs.scopes.Scopes.asked_pairs.Goals as goal

pub loop-group-preserved : goal.loop-group-preserved
loop-group-preserved c = λ a b.
    let hs = hypotheses_in c.args.self.now.hyps in
    let xs = c.groups-group-items.result.now in
    let i = c.loop-group.group-index in
    let x = c.group-item.result in
    let within : i < length xs = search rules in
    let next : suc i ≡ i + 1 = omega arith in
    let front : drop i xs ≡ x ∷ drop (i + 1) xs =
    drop-cons xs i x within ∙ ap (λ (v : Vec ℕ). v ∷ drop (suc i) xs) (sym c.group-item.is)
    ∙ ap (λ (n : ℕ). x ∷ drop n xs) next in
    let one : in_group a b c.in_ok-wanted.field-0.items ≡ wanted_pair hs a b x.items =
    ap (in_group a b)
    (c.in_ok-wanted.ensures ∙ ap (filter (is_wanted_number hs [])) c.deref.ensures.value) in
    any-step (wanted_pair hs a b) (in_groups (groups_of c.loop-group.pairs.items) a b) _ _ x.items
    (groups_of (drop (i + 1) xs)) (groups_of (drop i xs)) _
    (c.in_ok-push_group.ensures a b) one (ap groups_of front) (c.loop-group.invariant a b)

pub returns : goal.returns
returns c = λ a b.
    let hs = hypotheses_in c.args.self.now.hyps in
    let gs = groups_in c.args.self.now.disjoint in
    let xs = c.groups-group-items.result.now in
    pairs-restricted hs gs (groups_of c.loop-group.pairs.items)
    (λ u v.
    any-end (wanted_pair hs u v) (in_groups (groups_of c.loop-group.pairs.items) u v)
    (groups_of (drop c.loop-group.group-index xs)) _
    (ap groups_of (drop_all _ xs c.loop-group-test.false)) (c.loop-group.invariant u v)
    ∙ ap (list_any (wanted_pair hs u v)) c.groups-group-items.ensures
    ∙ wanted-pairs hs gs u v)
    a b
