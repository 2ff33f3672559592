-- A rule over proofs of its premises proves its conclusion.
use Rattle.std.proofs.Common.{List, [], ◌∷◌, ◌++◌, refl, map, subst, sym, append-nil}
use Rattle.std.specs.Prelude.{codes}
use Rattle.mm_database.specs.Database.{Context}
use Rattle.mm_database.specs.Proofs.{Expression, ProofTree, Proves, AllProve, texts_apart}
use Rattle.mm_database.specs.Proofs.{symbols_apart}
use Rattle.ml_pat.specs.Patterns.{Pattern, bot, top, imp, not, and, or, equal, member, fun, ex, all}
use Rattle.ml_pat.specs.Patterns.{app, next, ev, var}
use Rattle.mm_proof.specs.Tokens.{Naming, letters_of, text_by}
use Rattle.mm_proof.specs.Judgements.{is_fresh, is_substituted, is_predicate, holds}
use Rattle.ml_pat.specs.Leaves.{LeafFacts}
use Rattle.mm_proof.specs.Serving.{Serves}
use Rattle.mm_proof.specs.Trees.{fresh_tree, instance_tree, rule_tree, trees_before, trees_after}
use Rattle.proof_nodes.specs.Tables.{forest_of}
use Rattle.mm_proof.proofs.RowProofs.{row_proves, all_proofs}
use Rattle.mm_proof.proofs.SyntaxLaws.{pattern_text, sort_text, object_text, sort_proves}
use Rattle.mm_proof.proofs.SyntaxLaws.{object_proves, syntax_proves}
use Rattle.ml_kernel.specs.Rules.{Instance, pattern, variable, sort, Infers}
use Rattle.ml_kernel.specs.Rules as rules
use Rattle.ml_kernel.specs.UsedLeaves.{EachInstance}
use Rattle.ml_kernel.specs.declared.rules.Rule.{Rule}
use Rattle.ml_kernel.specs.declared.rules.Rule.TheVariants as rule
use Rattle.mm_proof.specs.Derivations.{holds_text}
use Rattle.ml_pat.proofs.LeafLaws.{EachLeaf-absent}
use Rattle.mm_proof.proofs.ApartLaws.{text_apart, apart_text}
use Rattle.mm_proof.proofs.FreshLaws.{fresh_text, fresh_proves, two_apart}
use Rattle.mm_proof.proofs.PredicateLaws.{predicate_text, predicate_proves}
use Rattle.mm_proof.proofs.SubstitutionLaws.{substitution_text, substitution_proves}
use Rattle.mm_proof.proofs.Rows.{no_pair, pair_of, P, Q, R, T, U, fp, fq, fr, ft, fu, fx, fy, fs}
use Rattle.mm_proof.proofs.Rows.{fv}
use Rattle.mm_proof.proofs.ProofRowFrames.{row_p_1, row_p_2, row_p_3, row_mp, row_not_1, row_not_2}
use Rattle.mm_proof.proofs.ProofRowFrames.{row_and_1, row_and_2, row_and_3, row_or_1, row_or_2}
use Rattle.mm_proof.proofs.ProofRowFrames.{row_or_3, row_top, row_inst, row_fun_ex, row_ex_el}
use Rattle.mm_proof.proofs.ProofRowFrames.{row_eq_refl, row_eq_el, row_eq_in, row_mem_in}
use Rattle.mm_proof.proofs.ProofRowFrames.{row_mem_no, row_apart, row_app_l, row_app_r, row_bot_l}
use Rattle.mm_proof.proofs.ProofRowFrames.{row_bot_r, row_next_in, row_ev_1, row_ev_2, row_ev_kt}

-- the proofs below a rule
abbrev below : Naming → Rule → List Instance → List ProofTree → List ProofTree
below l r is trees =
    map (instance_tree l) is ++ (trees_before l r is ++ (trees ++ trees_after l r is))

-- if there is no judgement after them
unbehind : (c : Context) (trees : List ProofTree) (es : List Expression)
    → AllProve c (forest_of trees) es → AllProve c (forest_of (trees ++ [])) es
unbehind c trees es h =
    subst (λ (ts : List ProofTree). AllProve c (forest_of ts) es) (sym (append-nil trees)) h

pub rule_proves : (c : Context) (l n : Naming) (known : LeafFacts) {r : Rule} {is : List Instance}
    {ps : List Pattern} {q : Pattern} (trees : List ProofTree) → Serves c l n known
    → Infers r is ps q → EachInstance known is → AllProve c (forest_of trees) (map (holds_text n) ps)
    → Proves c (rule_tree l r is trees) (holds_text n q)
rule_proves c l n known trees w (rules.p_1 p q) known_is all_hold =
    row_proves c (codes "p.1") no_pair (fp ∷ fq ∷ []) ([]) (holds (imp P (imp Q P)))
    (pattern_text n p ∷ pattern_text n q ∷ []) _
    (below l rule.P1 (pattern p ∷ pattern q ∷ []) trees) w.header row_p_1 refl refl refl refl (
      _,
      _,
      refl,
      syntax_proves c l n p known w known_is.0,
      (_, _, refl, syntax_proves c l n q known w known_is.1.0, unbehind c trees _ all_hold),
    )
rule_proves c l n known trees w (rules.p_2 p q r) known_is all_hold =
    row_proves c (codes "p.2") no_pair (fp ∷ fq ∷ fr ∷ []) ([])
    (holds (imp (imp P (imp Q R)) (imp (imp P Q) (imp P R))))
    (pattern_text n p ∷ pattern_text n q ∷ pattern_text n r ∷ []) _
    (below l rule.P2 (pattern p ∷ pattern q ∷ pattern r ∷ []) trees) w.header row_p_2 refl refl
    refl refl (
      _,
      _,
      refl,
      syntax_proves c l n p known w known_is.0,
      (
        _,
        _,
        refl,
        syntax_proves c l n q known w known_is.1.0,
        (_, _, refl, syntax_proves c l n r known w known_is.1.1.0, unbehind c trees _ all_hold),
      ),
    )
rule_proves c l n known trees w (rules.p_3 p) known_is all_hold =
    row_proves c (codes "p.3") no_pair (fp ∷ []) ([]) (holds (imp (imp (imp P bot) bot) P))
    (pattern_text n p ∷ []) _ (below l rule.P3 (pattern p ∷ []) trees) w.header row_p_3 refl
    refl refl refl
    (_, _, refl, syntax_proves c l n p known w known_is.0, unbehind c trees _ all_hold)
rule_proves c l n known trees w (rules.mp p q) known_is all_hold =
    row_proves c (codes "mp") no_pair (fp ∷ fq ∷ []) (holds P ∷ holds (imp P Q) ∷ []) (holds (Q))
    (pattern_text n p ∷ pattern_text n q ∷ holds_text n p ∷ holds_text n (imp p q) ∷ []) _
    (below l rule.Mp (pattern p ∷ pattern q ∷ []) trees) w.header row_mp refl refl refl refl (
      _,
      _,
      refl,
      syntax_proves c l n p known w known_is.0,
      (_, _, refl, syntax_proves c l n q known w known_is.1.0, unbehind c trees _ all_hold),
    )
rule_proves c l n known trees w (rules.not_1 p) known_is all_hold =
    row_proves c (codes "not.1") no_pair (fp ∷ []) ([]) (holds (imp (not P) (imp P bot)))
    (pattern_text n p ∷ []) _ (below l rule.Not1 (pattern p ∷ []) trees) w.header row_not_1 refl
    refl refl refl
    (_, _, refl, syntax_proves c l n p known w known_is.0, unbehind c trees _ all_hold)
rule_proves c l n known trees w (rules.not_2 p) known_is all_hold =
    row_proves c (codes "not.2") no_pair (fp ∷ []) ([]) (holds (imp (imp P bot) (not P)))
    (pattern_text n p ∷ []) _ (below l rule.Not2 (pattern p ∷ []) trees) w.header row_not_2 refl
    refl refl refl
    (_, _, refl, syntax_proves c l n p known w known_is.0, unbehind c trees _ all_hold)
rule_proves c l n known trees w (rules.and_1 p q) known_is all_hold =
    row_proves c (codes "and.1") no_pair (fp ∷ fq ∷ []) ([]) (holds (imp (and P Q) P))
    (pattern_text n p ∷ pattern_text n q ∷ []) _
    (below l rule.And1 (pattern p ∷ pattern q ∷ []) trees) w.header row_and_1 refl refl refl
    refl (
      _,
      _,
      refl,
      syntax_proves c l n p known w known_is.0,
      (_, _, refl, syntax_proves c l n q known w known_is.1.0, unbehind c trees _ all_hold),
    )
rule_proves c l n known trees w (rules.and_2 p q) known_is all_hold =
    row_proves c (codes "and.2") no_pair (fp ∷ fq ∷ []) ([]) (holds (imp (and P Q) Q))
    (pattern_text n p ∷ pattern_text n q ∷ []) _
    (below l rule.And2 (pattern p ∷ pattern q ∷ []) trees) w.header row_and_2 refl refl refl
    refl (
      _,
      _,
      refl,
      syntax_proves c l n p known w known_is.0,
      (_, _, refl, syntax_proves c l n q known w known_is.1.0, unbehind c trees _ all_hold),
    )
rule_proves c l n known trees w (rules.and_3 p q) known_is all_hold =
    row_proves c (codes "and.3") no_pair (fp ∷ fq ∷ []) ([]) (holds (imp P (imp Q (and P Q))))
    (pattern_text n p ∷ pattern_text n q ∷ []) _
    (below l rule.And3 (pattern p ∷ pattern q ∷ []) trees) w.header row_and_3 refl refl refl
    refl (
      _,
      _,
      refl,
      syntax_proves c l n p known w known_is.0,
      (_, _, refl, syntax_proves c l n q known w known_is.1.0, unbehind c trees _ all_hold),
    )
rule_proves c l n known trees w (rules.or_1 p q) known_is all_hold =
    row_proves c (codes "or.1") no_pair (fp ∷ fq ∷ []) ([]) (holds (imp P (or P Q)))
    (pattern_text n p ∷ pattern_text n q ∷ []) _
    (below l rule.Or1 (pattern p ∷ pattern q ∷ []) trees) w.header row_or_1 refl refl refl refl (
      _,
      _,
      refl,
      syntax_proves c l n p known w known_is.0,
      (_, _, refl, syntax_proves c l n q known w known_is.1.0, unbehind c trees _ all_hold),
    )
rule_proves c l n known trees w (rules.or_2 p q) known_is all_hold =
    row_proves c (codes "or.2") no_pair (fp ∷ fq ∷ []) ([]) (holds (imp Q (or P Q)))
    (pattern_text n p ∷ pattern_text n q ∷ []) _
    (below l rule.Or2 (pattern p ∷ pattern q ∷ []) trees) w.header row_or_2 refl refl refl refl (
      _,
      _,
      refl,
      syntax_proves c l n p known w known_is.0,
      (_, _, refl, syntax_proves c l n q known w known_is.1.0, unbehind c trees _ all_hold),
    )
rule_proves c l n known trees w (rules.or_3 p q r) known_is all_hold =
    row_proves c (codes "or.3") no_pair (fp ∷ fq ∷ fr ∷ []) ([])
    (holds (imp (imp P R) (imp (imp Q R) (imp (or P Q) R))))
    (pattern_text n p ∷ pattern_text n q ∷ pattern_text n r ∷ []) _
    (below l rule.Or3 (pattern p ∷ pattern q ∷ pattern r ∷ []) trees) w.header row_or_3 refl
    refl refl refl (
      _,
      _,
      refl,
      syntax_proves c l n p known w known_is.0,
      (
        _,
        _,
        refl,
        syntax_proves c l n q known w known_is.1.0,
        (_, _, refl, syntax_proves c l n r known w known_is.1.1.0, unbehind c trees _ all_hold),
      ),
    )
rule_proves c l n known trees w rules.truth known_is all_hold =
    row_proves c (codes "top") no_pair ([]) ([]) (holds (top)) ([]) _ (below l rule.Top ([]) trees)
    w.header row_top refl refl refl refl
    (unbehind c trees _ all_hold)
rule_proves c l n known trees w (rules.inst p q r x s h0) known_is all_hold =
    row_proves c (codes "inst") no_pair (fp ∷ fq ∷ fr ∷ fx ∷ fs ∷ []) (is_substituted R P Q 0 ∷ [])
    (holds (imp (all 0 0 P) (imp (fun Q 0) R))) (pattern_text n p ∷ pattern_text n q
    ∷ pattern_text n r ∷ object_text n x ∷ sort_text n s ∷ substitution_text n r p q x ∷ [])
    _ (below l rule.Inst (pattern p ∷ pattern q ∷ pattern r ∷ variable x ∷ sort s ∷ []) trees)
    w.header row_inst refl refl refl refl (
      _,
      _,
      refl,
      syntax_proves c l n p known w known_is.0,
      (
        _,
        _,
        refl,
        syntax_proves c l n q known w known_is.1.0,
        (
          _,
          _,
          refl,
          syntax_proves c l n r known w known_is.1.1.0,
          (
            _,
            _,
            refl,
            object_proves c l n x (w.object x known_is.1.1.1.0),
            (
              _,
              _,
              refl,
              sort_proves c l n s (w.sort s known_is.1.1.1.1.0),
              (
                _,
                _,
                refl,
                substitution_proves c l n known x q p r w known_is.1.1.1.0 known_is.1.0 known_is.0
                    known_is.1.1.0 h0,
                unbehind c trees _ all_hold,
              ),
            ),
          ),
        ),
      ),
    )
rule_proves c l n known trees w (rules.fun_ex p y s h0) known_is all_hold =
    row_proves c (codes "fun.ex") (pair_of (codes "y") (codes "p") (codes "fun.ex") []
    (codes "( \\imp ( \\ex y s ( \\eq y p ) ) ( \\fun p s ) )")) (fp ∷ fy ∷ fs ∷ []) ([])
    (holds (imp (ex 1 0 (equal (var 1) P)) (fun P 0)))
    (pattern_text n p ∷ object_text n y ∷ sort_text n s ∷ []) _
    (below l rule.FunEx (pattern p ∷ variable y ∷ sort s ∷ []) trees) w.header row_fun_ex refl
    (two_apart (texts_apart (symbols_apart c) (text_by (letters_of n) p) (n.object y ∷ []))
    (texts_apart (symbols_apart c) (n.object y ∷ []) (text_by (letters_of n) p))
    (apart_text c l n known y p w known_is.1.0 (EachLeaf-absent known y p h0 known_is.0))
    (text_apart c l n known y p w known_is.1.0 (EachLeaf-absent known y p h0 known_is.0)))
    refl refl (
      _,
      _,
      refl,
      syntax_proves c l n p known w known_is.0,
      (
        _,
        _,
        refl,
        object_proves c l n y (w.object y known_is.1.0),
        (_, _, refl, sort_proves c l n s (w.sort s known_is.1.1.0), unbehind c trees _ all_hold),
      ),
    )
rule_proves c l n known trees w (rules.ex_el p q x s h0) known_is all_hold =
    row_proves c (codes "ex.el") no_pair (fp ∷ fq ∷ fx ∷ fs ∷ [])
    (holds (imp (fun (var 0) 0) (imp P Q)) ∷ is_fresh 0 Q ∷ []) (holds (imp (ex 0 0 P) Q))
    (pattern_text n p ∷ pattern_text n q ∷ object_text n x ∷ sort_text n s
    ∷ holds_text n (imp (fun (var x) s) (imp p q)) ∷ fresh_text n x q ∷ []) _
    (below l rule.ExEl (pattern p ∷ pattern q ∷ variable x ∷ sort s ∷ []) trees) w.header
    row_ex_el refl refl refl refl (
      _,
      _,
      refl,
      syntax_proves c l n p known w known_is.0,
      (
        _,
        _,
        refl,
        syntax_proves c l n q known w known_is.1.0,
        (
          _,
          _,
          refl,
          object_proves c l n x (w.object x known_is.1.1.0),
          (
            _,
            _,
            refl,
            sort_proves c l n s (w.sort s known_is.1.1.1.0),
            all_proofs c trees (fresh_tree l x q ∷ [])
                (holds_text n (imp (fun (var x) s) (imp p q)) ∷ []) (fresh_text n x q ∷ []) all_hold
                (_, _, refl, fresh_proves c l n known x q w known_is.1.1.0 known_is.1.0 h0, refl),
          ),
        ),
      ),
    )
rule_proves c l n known trees w (rules.eq_refl p) known_is all_hold =
    row_proves c (codes "eq.refl") no_pair (fp ∷ []) ([]) (holds (equal P P))
    (pattern_text n p ∷ []) _ (below l rule.EqRefl (pattern p ∷ []) trees) w.header row_eq_refl
    refl refl refl refl
    (_, _, refl, syntax_proves c l n p known w known_is.0, unbehind c trees _ all_hold)
rule_proves c l n known trees w (rules.eq_el p q r t u x h0 h1) known_is all_hold =
    row_proves c (codes "eq.el") no_pair (fp ∷ fq ∷ fr ∷ ft ∷ fu ∷ fx ∷ [])
    (is_substituted T R P 0 ∷ is_substituted U R Q 0 ∷ []) (holds (imp (equal P Q) (imp T U)))
    (pattern_text n p ∷ pattern_text n q ∷ pattern_text n r ∷ pattern_text n t
    ∷ pattern_text n u ∷ object_text n x ∷ substitution_text n t r p x
    ∷ substitution_text n u r q x ∷ []) _ (below l rule.EqEl
    (pattern p ∷ pattern q ∷ pattern r ∷ pattern t ∷ pattern u ∷ variable x ∷ []) trees)
    w.header row_eq_el refl refl refl refl (
      _,
      _,
      refl,
      syntax_proves c l n p known w known_is.0,
      (
        _,
        _,
        refl,
        syntax_proves c l n q known w known_is.1.0,
        (
          _,
          _,
          refl,
          syntax_proves c l n r known w known_is.1.1.0,
          (
            _,
            _,
            refl,
            syntax_proves c l n t known w known_is.1.1.1.0,
            (
              _,
              _,
              refl,
              syntax_proves c l n u known w known_is.1.1.1.1.0,
              (
                _,
                _,
                refl,
                object_proves c l n x (w.object x known_is.1.1.1.1.1.0),
                (
                  _,
                  _,
                  refl,
                  substitution_proves c l n known x p r t w known_is.1.1.1.1.1.0 known_is.0
                      known_is.1.1.0
                      known_is.1.1.1.0 h0,
                  (
                    _,
                    _,
                    refl,
                    substitution_proves c l n known x q r u w known_is.1.1.1.1.1.0 known_is.1.0
                        known_is.1.1.0
                        known_is.1.1.1.1.0 h1,
                    unbehind c trees _ all_hold,
                  ),
                ),
              ),
            ),
          ),
        ),
      ),
    )
rule_proves c l n known trees w (rules.eq_in p q) known_is all_hold =
    row_proves c (codes "eq.in") no_pair (fp ∷ fq ∷ []) (holds (imp P Q) ∷ holds (imp Q P) ∷ [])
    (holds (equal P Q))
    (pattern_text n p ∷ pattern_text n q ∷ holds_text n (imp p q) ∷ holds_text n (imp q p) ∷ [])
    _ (below l rule.EqIn (pattern p ∷ pattern q ∷ []) trees) w.header row_eq_in refl refl refl
    refl (
      _,
      _,
      refl,
      syntax_proves c l n p known w known_is.0,
      (_, _, refl, syntax_proves c l n q known w known_is.1.0, unbehind c trees _ all_hold),
    )
rule_proves c l n known trees w (rules.mem_in p s) known_is all_hold =
    row_proves c (codes "mem.in") no_pair (fp ∷ fs ∷ []) ([]) (holds (imp (fun P 0) (member P P)))
    (pattern_text n p ∷ sort_text n s ∷ []) _
    (below l rule.MemIn (pattern p ∷ sort s ∷ []) trees) w.header row_mem_in refl refl refl refl (
      _,
      _,
      refl,
      syntax_proves c l n p known w known_is.0,
      (_, _, refl, sort_proves c l n s (w.sort s known_is.1.0), unbehind c trees _ all_hold),
    )
rule_proves c l n known trees w (rules.mem_no p q r h0) known_is all_hold =
    row_proves c (codes "mem.no") no_pair (fp ∷ fq ∷ fr ∷ [])
    (is_predicate R ∷ holds (imp R (not (and P Q))) ∷ []) (holds (imp R (not (member P Q))))
    (pattern_text n p ∷ pattern_text n q ∷ pattern_text n r ∷ predicate_text n r
    ∷ holds_text n (imp r (not (and p q))) ∷ []) _
    (below l rule.MemNo (pattern p ∷ pattern q ∷ pattern r ∷ []) trees) w.header row_mem_no refl
    refl refl refl (
      _,
      _,
      refl,
      syntax_proves c l n p known w known_is.0,
      (
        _,
        _,
        refl,
        syntax_proves c l n q known w known_is.1.0,
        (
          _,
          _,
          refl,
          syntax_proves c l n r known w known_is.1.1.0,
          (
            _,
            _,
            refl,
            predicate_proves c l n known r w known_is.1.1.0 h0,
            unbehind c trees _ all_hold,
          ),
        ),
      ),
    )
rule_proves c l n known trees w (rules.apart p q s v) known_is all_hold =
    row_proves c (codes "apart") no_pair (fp ∷ fq ∷ fs ∷ fv ∷ []) ([])
    (holds (imp (fun P 0) (imp (fun Q 1) (imp (not (equal P Q)) (not (and P Q))))))
    (pattern_text n p ∷ pattern_text n q ∷ sort_text n s ∷ sort_text n v ∷ []) _
    (below l rule.Apart (pattern p ∷ pattern q ∷ sort s ∷ sort v ∷ []) trees) w.header row_apart
    refl refl refl refl (
      _,
      _,
      refl,
      syntax_proves c l n p known w known_is.0,
      (
        _,
        _,
        refl,
        syntax_proves c l n q known w known_is.1.0,
        (
          _,
          _,
          refl,
          sort_proves c l n s (w.sort s known_is.1.1.0),
          (
            _,
            _,
            refl,
            sort_proves c l n v (w.sort v known_is.1.1.1.0),
            unbehind c trees _ all_hold,
          ),
        ),
      ),
    )
rule_proves c l n known trees w (rules.app_l p q r t h0) known_is all_hold =
    row_proves c (codes "app.l") no_pair (fp ∷ fq ∷ fr ∷ ft ∷ [])
    (is_predicate R ∷ holds (imp R (imp P Q)) ∷ []) (holds (imp R (imp (app P T) (app Q T))))
    (pattern_text n p ∷ pattern_text n q ∷ pattern_text n r ∷ pattern_text n t
    ∷ predicate_text n r ∷ holds_text n (imp r (imp p q)) ∷ []) _
    (below l rule.AppL (pattern p ∷ pattern q ∷ pattern r ∷ pattern t ∷ []) trees) w.header
    row_app_l refl refl refl refl (
      _,
      _,
      refl,
      syntax_proves c l n p known w known_is.0,
      (
        _,
        _,
        refl,
        syntax_proves c l n q known w known_is.1.0,
        (
          _,
          _,
          refl,
          syntax_proves c l n r known w known_is.1.1.0,
          (
            _,
            _,
            refl,
            syntax_proves c l n t known w known_is.1.1.1.0,
            (
              _,
              _,
              refl,
              predicate_proves c l n known r w known_is.1.1.0 h0,
              unbehind c trees _ all_hold,
            ),
          ),
        ),
      ),
    )
rule_proves c l n known trees w (rules.app_r p q r t h0) known_is all_hold =
    row_proves c (codes "app.r") no_pair (fp ∷ fq ∷ fr ∷ ft ∷ [])
    (is_predicate R ∷ holds (imp R (imp P Q)) ∷ []) (holds (imp R (imp (app T P) (app T Q))))
    (pattern_text n p ∷ pattern_text n q ∷ pattern_text n r ∷ pattern_text n t
    ∷ predicate_text n r ∷ holds_text n (imp r (imp p q)) ∷ []) _
    (below l rule.AppR (pattern p ∷ pattern q ∷ pattern r ∷ pattern t ∷ []) trees) w.header
    row_app_r refl refl refl refl (
      _,
      _,
      refl,
      syntax_proves c l n p known w known_is.0,
      (
        _,
        _,
        refl,
        syntax_proves c l n q known w known_is.1.0,
        (
          _,
          _,
          refl,
          syntax_proves c l n r known w known_is.1.1.0,
          (
            _,
            _,
            refl,
            syntax_proves c l n t known w known_is.1.1.1.0,
            (
              _,
              _,
              refl,
              predicate_proves c l n known r w known_is.1.1.0 h0,
              unbehind c trees _ all_hold,
            ),
          ),
        ),
      ),
    )
rule_proves c l n known trees w (rules.bot_l p) known_is all_hold =
    row_proves c (codes "bot.l") no_pair (fp ∷ []) ([]) (holds (imp (app bot P) bot))
    (pattern_text n p ∷ []) _ (below l rule.BotL (pattern p ∷ []) trees) w.header row_bot_l refl
    refl refl refl
    (_, _, refl, syntax_proves c l n p known w known_is.0, unbehind c trees _ all_hold)
rule_proves c l n known trees w (rules.bot_r p) known_is all_hold =
    row_proves c (codes "bot.r") no_pair (fp ∷ []) ([]) (holds (imp (app P bot) bot))
    (pattern_text n p ∷ []) _ (below l rule.BotR (pattern p ∷ []) trees) w.header row_bot_r refl
    refl refl refl
    (_, _, refl, syntax_proves c l n p known w known_is.0, unbehind c trees _ all_hold)
rule_proves c l n known trees w (rules.next_in p q) known_is all_hold =
    row_proves c (codes "next.in") no_pair (fp ∷ fq ∷ []) (holds (imp P Q) ∷ [])
    (holds (imp (next P) (next Q)))
    (pattern_text n p ∷ pattern_text n q ∷ holds_text n (imp p q) ∷ []) _
    (below l rule.NextIn (pattern p ∷ pattern q ∷ []) trees) w.header row_next_in refl refl refl
    refl (
      _,
      _,
      refl,
      syntax_proves c l n p known w known_is.0,
      (_, _, refl, syntax_proves c l n q known w known_is.1.0, unbehind c trees _ all_hold),
    )
rule_proves c l n known trees w (rules.ev_1 p) known_is all_hold =
    row_proves c (codes "ev.1") no_pair (fp ∷ []) ([]) (holds (imp P (ev P)))
    (pattern_text n p ∷ []) _ (below l rule.Ev1 (pattern p ∷ []) trees) w.header row_ev_1 refl
    refl refl refl
    (_, _, refl, syntax_proves c l n p known w known_is.0, unbehind c trees _ all_hold)
rule_proves c l n known trees w (rules.ev_2 p) known_is all_hold =
    row_proves c (codes "ev.2") no_pair (fp ∷ []) ([]) (holds (imp (next (ev P)) (ev P)))
    (pattern_text n p ∷ []) _ (below l rule.Ev2 (pattern p ∷ []) trees) w.header row_ev_2 refl
    refl refl refl
    (_, _, refl, syntax_proves c l n p known w known_is.0, unbehind c trees _ all_hold)
rule_proves c l n known trees w (rules.ev_kt p q) known_is all_hold =
    row_proves c (codes "ev.kt") no_pair (fp ∷ fq ∷ [])
    (holds (imp P Q) ∷ holds (imp (next Q) Q) ∷ []) (holds (imp (ev P) Q)) (pattern_text n p
    ∷ pattern_text n q ∷ holds_text n (imp p q) ∷ holds_text n (imp (next q) q) ∷ []) _
    (below l rule.EvKt (pattern p ∷ pattern q ∷ []) trees) w.header row_ev_kt refl refl refl
    refl (
      _,
      _,
      refl,
      syntax_proves c l n p known w known_is.0,
      (_, _, refl, syntax_proves c l n q known w known_is.1.0, unbehind c trees _ all_hold),
    )
