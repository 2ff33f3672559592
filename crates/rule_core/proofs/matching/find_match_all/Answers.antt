use Rattle.std.proofs.Common.{rules, length-append, ◌≡◌, ◌<◌, ℕ, min, List, [], Some, None, length}
use Rattle.std.proofs.Common.{drop, replicate, refl, sym, ◌∙◌, subst, arith}
use Rattle.std.specs.Prelude.{slice_get}
use Rattle.std.proofs.lemmas.List.{drop_all}
use Rattle.std.proofs.lemmas.Option.{slice_get_read}
use Rattle.std.proofs.lemmas.Slice.Zip.{zip_turn, zip_end}
use Rattle.term_core.specs.Terms.{Tree}
use Rattle.term_core.specs.Forests.{forest}
use Rattle.term_core.specs.RulePatterns.{plain_pattern}
use Rattle.term_core.specs.PatternLists.{plain_patterns}
use Rattle.term_core.specs.declared.rule_patterns.RulePat.{RulePat}
use Rattle.rule_core.specs.Matching.{OccursIn}
use Rattle.rule_core.specs.MatchSteps.{all_matched}
use Rattle.rule_core.proofs.MatchAnswers.{stands_of-item, answer_none, answer_some, rest_goes_on}
use Rattle.rule_core.proofs.MatchAnswers.{rest_fails, all_nodes-drop}
use Rattle.rule_core.proofs.Searches.{search_found, search_failed}
use Rattle.rule_core.proofs.matching.find_match_all.Goals as goal

pub match_term-requires : goal.match_term-requires
match_term-requires g c =
    let turn =
    zip_turn c.args.pats.now c.args.terms.now c.loop-pat.yielded c.into_iter-pat-iterator.result _
    c.next.new.self _ (search rules) (search rules) c.loop-pat.yielded_by
    (c.in-Some.pat, c.in-Some.term) c.in-Some.is c.next.ensures.steps in
    let P : ℕ → Type 0 = λ n. (x : ℕ) → OccursIn x (plain_pattern c.in-Some.pat.now) → x < n in
    subst P (sym c.loop-pat.invariant.room) (λ x stands.
    c.requires.scoped x (stands_of-item _ _ _ x (turn.2 _) turn.0 stands))

pub returns-then-not-branch-clause-found : goal.returns-then-not-branch-clause-found
returns-then-not-branch-clause-found g c =
    let turn =
    zip_turn c.args.pats.now c.args.terms.now c.loop-pat.yielded c.into_iter-pat-iterator.result _
    c.next.new.self _ (search rules) (search rules) c.loop-pat.yielded_by
    (c.in-Some.pat, c.in-Some.term) c.in-Some.is c.next.ensures.steps in
    let item : slice_get c.args.terms.now (length c.loop-pat.yielded) ≡ Some c.in-Some.term.now =
    slice_get_read _ (length c.args.terms.now) _ _ refl turn.1 (turn.3 _) in
    search_failed c.args.subsorts.now c.args.vars (plain_patterns c.args.pats.now)
    (forest c.args.terms.now) c.has_no_cycle.ensures
    (rest_fails _ c.args.pats.now c.args.terms.now _ (length c.loop-pat.yielded) _
    c.in-Some.term.now _ (turn.2 _) turn.0 item (answer_none _ _ _ c.in_ok-match_term.ensures.found
    c.if-not-branch.true) c.loop-pat.invariant.rest)

pub loop-pat-preserved : goal.loop-pat-preserved
loop-pat-preserved g c =
    let turn =
    zip_turn c.args.pats.now c.args.terms.now c.loop-pat.yielded c.into_iter-pat-iterator.result _
    c.next.new.self _ (search rules) (search rules) c.loop-pat.yielded_by
    (c.in-Some.pat, c.in-Some.term) c.in-Some.is c.next.ensures.steps in
    let item : slice_get c.args.terms.now (length c.loop-pat.yielded) ≡ Some c.in-Some.term.now =
    slice_get_read _ (length c.args.terms.now) _ _ refl turn.1 (turn.3 _) in
    record {
      room = c.in_ok-match_term.ensures.room ∙ c.loop-pat.invariant.room;
      rest =
          simp length-append (rest_goes_on _ c.args.pats.now c.args.terms.now _ _ (length
          c.loop-pat.yielded) _ c.in-Some.term.now _ (turn.2 _) turn.0 item (answer_some _ _ _
          c.in_ok-match_term.ensures.found c.if-not-branch.false) c.loop-pat.invariant.rest);
      looks =
          simp length-append (omega (
            arith,
            all_nodes-drop _ _ _ (turn.2 _) turn.0,
            c.match_term.ensures.looks,
          ));
    }

pub returns-then-not-branch-clause-looks : goal.returns-then-not-branch-clause-looks
returns-then-not-branch-clause-looks g c =
    let turn =
    zip_turn c.args.pats.now c.args.terms.now c.loop-pat.yielded c.into_iter-pat-iterator.result _
    c.next.new.self _ (search rules) (search rules) c.loop-pat.yielded_by
    (c.in-Some.pat, c.in-Some.term) c.in-Some.is c.next.ensures.steps in
    omega (
      arith,
      all_nodes-drop _ _ _ (turn.2 _) turn.0,
      c.match_term.ensures.looks,
    )

pub returns-clause-found : goal.returns-clause-found
returns-clause-found g c =
    let all : length c.loop-pat.yielded ≡ min (length c.args.pats.now) (length c.args.terms.now) =
    zip_end c.args.pats.now c.args.terms.now c.loop-pat.yielded c.into_iter-pat-iterator.result _
    c.next.new.self _ (search rules) (search rules) c.loop-pat.yielded_by c.in-None.is
    c.next.ensures.steps in
    let no_pats : drop (length c.loop-pat.yielded) c.args.pats.now ≡ [] =
    drop_all (length c.loop-pat.yielded) c.args.pats.now (omega arith) in
    let no_terms : drop (length c.loop-pat.yielded) c.args.terms.now ≡ [] =
    drop_all (length c.loop-pat.yielded) c.args.terms.now (omega arith) in
    let P : List RulePat → Type 0 =
    λ ps. all_matched c.args.subsorts.now (plain_patterns ps)
    (forest (drop (length c.loop-pat.yielded) c.args.terms.now)) c.loop-pat.subst
    ≡ all_matched c.args.subsorts.now (plain_patterns c.args.pats.now)
    (forest c.args.terms.now) (replicate c.args.vars None) in
    let Q : List Tree → Type 0 =
    λ ts. all_matched c.args.subsorts.now (plain_patterns []) (forest ts) c.loop-pat.subst
    ≡ all_matched c.args.subsorts.now (plain_patterns c.args.pats.now)
    (forest c.args.terms.now) (replicate c.args.vars None) in
    search_found c.args.subsorts.now c.args.vars (plain_patterns c.args.pats.now)
    (forest c.args.terms.now) c.loop-pat.subst c.highest-high.ensures.normal
    (sym (subst Q no_terms (subst P no_pats c.loop-pat.invariant.rest)))
