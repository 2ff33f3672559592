-- The arguments of a constructor one by one: what follows for the whole from those that are done.
use Rattle.std.proofs.Common.{◌≡◌, ◌<◌, ◌+◌, ℕ, zero, suc, List, [], ◌∷◌, Option, Some, None}
use Rattle.std.proofs.Common.{length, get_or, drop, refl, sym, ◌∙◌, ap, subst, arith}
use Rattle.std.specs.Prelude.{◌≢◌}
use Rattle.ml_pat.specs.Patterns.{Pattern, app, equal}
use Rattle.ml_kernel.specs.Lemmas.{HasNoVariable}
use Rattle.ml_kernel.specs.Theorems.{Theorem}
use Rattle.term_core.specs.Terms.{Tree, Forest, no_tree, more_trees}
use Rattle.term_core.specs.Patterns.{Pattern as RulePattern, Patterns as RulePatterns, no_pattern}
use Rattle.term_core.specs.Patterns.{more_patterns, with_first, instance_of, instances_of}
use Rattle.term_core.specs.Patterns.{ground_pattern, ground_patterns}
use Rattle.term_core.specs.Instances.{substituted, all_substituted}
use Rattle.term_core.specs.RulePatterns.{plain_pattern}
use Rattle.term_core.specs.PatternLists.{plain_patterns}
use Rattle.term_core.specs.declared.rule_patterns.RulePat.{RulePat}
use Rattle.rule_core.specs.Sorting.{HasSort, HaveSorts}
use Rattle.rule_core.specs.declared.rules.Program.{Program}
use Rattle.rule_core.specs.Matching.{RespectsSorts}
use Rattle.rule_core.specs.declared.signature.Signature.{Signature}
use Rattle.rule_core.specs.declared.signature.SortRef.{SortRef}
use Rattle.rule_core.proofs.SortedInstances.{both_there}
use Rattle.ml_image.specs.Images.{image_of}
use Rattle.ml_image.specs.Sentences.{term}
use Rattle.prove_term.specs.Contexts.{Context, HasGrown, StaysIn}
use Rattle.prove_term.specs.Schemas.{AreImages}
use Rattle.prove_term.specs.Applications.{applied_to, SaysEqualTo, IsApplication}
use Rattle.prove_term.specs.Comparing.{IsInstance, AreInstances, MakesTerm, MakeTerms, IsJoined}
use Rattle.prove_term.specs.Comparing.{IsCompared, Compares, AreCompared, AllCompare, IsOverContext}
use Rattle.prove_term.proofs.ContextLaws.{grown_none, grown_twice, image_grown, stays_grown}

-- ---- one argument

pub record IsItem (sig : Signature) (variables : List ℕ) (theta : List (Option Tree))
    (args : List RulePat) (i : ℕ) (p w : RulePat) : Type 0 where
  pub sort : ℕ
  pub tree : Tree
  pub instance : IsInstance sig variables theta (plain_pattern p) sort tree
  pub is : plain_pattern w ≡ ground_pattern tree
  pub others : Forest
  pub make_others : instances_of theta (plain_patterns (drop (i + 1) args)) ≡ Some others

further : (i : ℕ) → suc (i + 1) ≡ suc i + 1
further i = omega arith

first_same : (p q : RulePattern) (ps qs : RulePatterns) → more_patterns p ps ≡ more_patterns q qs
    → p ≡ q
first_same p q ps qs h = cc

others_same : (p q : RulePattern) (ps qs : RulePatterns) → more_patterns p ps ≡ more_patterns q qs
    → ps ≡ qs
others_same p q ps qs h = cc

item_step : (sig : Signature) (variables : List ℕ) (theta : List (Option Tree)) (a : RulePat)
    (args ws : List RulePat) (sort : ℕ) (t : Tree) (vs : Forest) (i : ℕ) (p w : RulePat)
    → HasSort sig variables (plain_pattern a) sort → RespectsSorts sig variables theta
    → instance_of theta (plain_pattern a) ≡ Some t
    → instances_of theta (plain_patterns args) ≡ Some vs
    → plain_patterns ws ≡ more_patterns (ground_pattern t) (ground_patterns vs)
    → i < length (a ∷ args) → p ≡ get_or (a ∷ args) i p → w ≡ get_or ws i w
    → ((ws : List RulePat) (i : ℕ) → plain_patterns ws ≡ ground_patterns vs → i < length args
    → p ≡ get_or args i p → w ≡ get_or ws i w → IsItem sig variables theta args i p w)
    → IsItem sig variables theta (a ∷ args) i p w
item_step sig variables theta a args [] sort t vs i p w sorted respects one more is low at on
    below =
    absurd (let no : ⊥ = cc in no)
item_step sig variables theta a args (v ∷ ws) sort t vs zero p w sorted respects one more is low at
    on below = record {
      sort = sort;
      tree = t;
      instance = record {
        sorted =
            subst (λ (q : RulePat). HasSort sig variables (plain_pattern q) sort) (sym at) sorted;
        respects = respects;
        makes = ap (λ (q : RulePat). instance_of theta (plain_pattern q)) at ∙ one;
      };
      is = ap plain_pattern on
          ∙ first_same (plain_pattern v) (ground_pattern t) (plain_patterns ws) (ground_patterns vs)
          is;
      others = vs;
      make_others = more;
    }
item_step sig variables theta a args (v ∷ ws) sort t vs (suc i) p w sorted respects one more is low
    at on below =
    let deeper : IsItem sig variables theta args i p w =
    below ws i (others_same (plain_pattern v) (ground_pattern t) (plain_patterns ws)
    (ground_patterns vs) is) (omega (arith, low)) at on in
    record {
      sort = deeper.sort;
      tree = deeper.tree;
      instance = deeper.instance;
      is = deeper.is;
      others = deeper.others;
      make_others =
          ap (λ (k : ℕ). instances_of theta (plain_patterns (drop k (a ∷ args)))) (sym (further i))
          ∙ deeper.make_others;
    }

item : (sig : Signature) (variables : List ℕ) (theta : List (Option Tree)) (args ws : List RulePat)
    (refs : List SortRef) (us : Forest) (i : ℕ) (p w : RulePat)
    → HaveSorts sig variables [] (plain_patterns args) refs → RespectsSorts sig variables theta
    → instances_of theta (plain_patterns args) ≡ Some us → plain_patterns ws ≡ ground_patterns us
    → i < length args → p ≡ get_or args i p → w ≡ get_or ws i w
    → IsItem sig variables theta args i p w
item sig variables theta [] ws refs us i p w sorted respects make is low at on =
    absurd (omega (arith, low))
item sig variables theta (a ∷ args) ws [] us i p w sorted respects make is low at on = absurd sorted
item sig variables theta (a ∷ args) ws (r ∷ refs) us i p w sorted respects make is low at on =
    let parts : (t : Tree) × ((vs : Forest)
    × ((us ≡ more_trees t vs)
    × ((instance_of theta (plain_pattern a) ≡ Some t)
    × (instances_of theta (plain_patterns args) ≡ Some vs)))) =
    both_there (instance_of theta (plain_pattern a)) (instances_of theta (plain_patterns args)) us
    make in
    item_step sig variables theta a args ws sorted.0 parts.0 parts.1.0 i p w sorted.2 respects
    parts.1.1.1.0 parts.1.1.1.1 (is ∙ ap ground_patterns parts.1.1.0) low at on
    (λ ws' i' is' low' at' on'. item sig variables theta args ws' refs parts.1.0 i' p w sorted.3
    respects parts.1.1.1.1 is' low' at' on')

pub item_of : (sig : Signature) (variables : List ℕ) (theta : List (Option Tree))
    (args ws : List RulePat) (refs : List SortRef) (us : Forest) (i : ℕ) (p w : RulePat)
    → AreInstances sig variables theta (plain_patterns args) refs us
    → plain_patterns ws ≡ ground_patterns us → i < length args → p ≡ get_or args i p
    → w ≡ get_or ws i w → IsItem sig variables theta args i p w
item_of sig variables theta args ws refs us i p w h is low at on =
    item sig variables theta args ws refs us i p w h.sorted h.respects h.make is low at on

pub made_item : (sig : Signature) (args ws : List RulePat) (i : ℕ) (p w : RulePat)
    → MakeTerms sig (plain_patterns args) (plain_patterns ws) → i < length args
    → p ≡ get_or args i p → w ≡ get_or ws i w → MakesTerm sig (plain_pattern p) (plain_pattern w)
made_item sig args ws i p w (variables, theta, refs, us, h, is) low at on =
    let one : IsItem sig variables theta args i p w =
    item_of sig variables theta args ws refs us i p w h is low at on in
    (variables, theta, one.sort, one.tree, one.instance, one.is)

-- ---- several arguments

-- The pattern `left`, applied to the images of the arguments in `rest`, is the head applied to the
-- images of all arguments. The images are those of the arguments as they are written.
abbrev pub IsWritten : Context → List (Option Tree) → Pattern → RulePatterns → RulePatterns
    → Pattern → Type 0
IsWritten cx theta head ps rest left =
    (later : Context) → HasGrown cx later → (ts : Forest) (qs : List Pattern)
    → all_substituted theta rest ≡ Some ts
    → AreImages later.program.sig later.names (ground_patterns ts) qs
    → (all : Forest) × (whole : List Pattern) × (all_substituted theta ps ≡ Some all)
    × AreImages later.program.sig later.names (ground_patterns all) whole
    × (applied_to left qs ≡ applied_to head whole)

pub record ArePlain (cx : Context) (theta : List (Option Tree)) (head : Pattern)
    (ps rest : RulePatterns) (function : Pattern) : Type 0 where
  pub same : all_substituted theta rest ≡ instances_of theta rest
      → all_substituted theta ps ≡ instances_of theta ps
  pub back : all_substituted theta ps ≡ instances_of theta ps
      → all_substituted theta rest ≡ instances_of theta rest
  pub written : IsWritten cx theta head ps rest function

pub record AreMended (cx : Context) (theta : List (Option Tree)) (head : Pattern)
    (ps rest : RulePatterns) (function : Pattern) (t : Theorem) : Type 0 where
  pub differ : all_substituted theta ps ≢ instances_of theta ps
  pub left : Pattern
  pub written : IsWritten cx theta head ps rest left
  pub closed : HasNoVariable left
  pub says : t.conclusion ≡ equal left function
  pub stays : StaysIn cx t

-- what is known of the arguments that are done
abbrev pub AreDone : Context → List (Option Tree) → Pattern → RulePatterns → RulePatterns → Pattern
    → Option Theorem → Type 0
AreDone cx theta head ps rest function None = ArePlain cx theta head ps rest function
AreDone cx theta head ps rest function (Some t) = AreMended cx theta head ps rest function t

written_grown : (a b : Context) (theta : List (Option Tree)) (head : Pattern)
    (ps rest : RulePatterns) (left : Pattern) → HasGrown a b
    → IsWritten a theta head ps rest left → IsWritten b theta head ps rest left
written_grown a b theta head ps rest left g h =
    λ later k ts qs is are. h later (grown_twice a b later g k) ts qs is are

pub done_grown : (a b : Context) (theta : List (Option Tree)) (head : Pattern)
    (ps rest : RulePatterns) (function : Pattern) (o : Option Theorem) → HasGrown a b
    → AreDone a theta head ps rest function o → AreDone b theta head ps rest function o
done_grown a b theta head ps rest function None g h = record {
  same = h.same;
  back = h.back;
  written = written_grown a b theta head ps rest function g h.written;
}
done_grown a b theta head ps rest function (Some t) g h =
    record {
      differ = h.differ;
      left = h.left;
      written = written_grown a b theta head ps rest h.left g h.written;
      closed = h.closed;
      says = h.says;
      stays = stays_grown a b t g h.stays;
    }

pub done_none : (cx : Context) (theta : List (Option Tree)) (head : Pattern) (ps : RulePatterns)
    → AreDone cx theta head ps ps head None
done_none cx theta head ps = record {
  same = λ e. e;
  back = λ e. e;
  written = λ later g ts qs is are. (ts, qs, is, are, refl);
}

first_there : (t : Tree) (o q : Option Forest) → with_first (Some t) o ≡ with_first (Some t) q
    → o ≡ q
first_there t None None h = refl
first_there t None (Some us) h = absurd (let no : ⊥ = cc in no)
first_there t (Some us) None h = absurd (let no : ⊥ = cc in no)
first_there t (Some us) (Some vs) h = let same : us ≡ vs = cc in ap (λ (x : Forest). Some x) same

same_first : (t u : Tree) (o : Option Forest) (us : Forest)
    → with_first (Some t) o ≡ Some (more_trees u us) → t ≡ u
same_first t u None us h = absurd (let no : ⊥ = cc in no)
same_first t u (Some ts) us h = cc

-- one more pattern before the rest
one_written : (cx : Context) (theta : List (Option Tree)) (head : Pattern) (ps : RulePatterns)
    (p : RulePattern) (rest : RulePatterns) (left : Pattern) (t : Tree) (q : Pattern)
    → substituted theta p ≡ Some t → image_of cx.program.sig cx.names (ground_pattern t) ≡ Some q
    → IsWritten cx theta head ps (more_patterns p rest) left
    → IsWritten cx theta head ps rest (app left q)
one_written cx theta head ps p rest left t q is image before = λ later g ts qs are images.
    before later g (more_trees t ts) (q ∷ qs) (ap
    (λ (o : Option Tree). with_first o (all_substituted theta rest)) is
    ∙ ap (with_first (Some t)) are)
    (image_grown cx later (term (ground_pattern t)) q g image, images)

pub one_more : (cx : Context) (theta : List (Option Tree)) (head : Pattern) (ps : RulePatterns)
    (p : RulePattern) (rest : RulePatterns) (function image : Pattern) (u : Tree) (us : Forest)
    (made one next : Option Theorem) → HasNoVariable function → HasNoVariable image
    → IsOverContext cx function → image_of cx.program.sig cx.names (ground_pattern u) ≡ Some image
    → instance_of theta p ≡ Some u → instances_of theta rest ≡ Some us
    → AreDone cx theta head ps (more_patterns p rest) function made
    → IsCompared cx theta p u image one → IsApplication cx function image made one next
    → AreDone cx theta head ps rest (app function image) next
one_more cx theta head ps p rest function image u us None None next closed closed' over is makes
    make before one is_next =
    subst (λ (o : Option Theorem). AreDone cx theta head ps rest (app function image) o)
    (sym is_next) (record {
      same =
          λ e. before.same (ap (λ (o : Option Tree). with_first o (all_substituted theta rest))
          (one ∙ sym makes) ∙ ap (with_first (instance_of theta p)) e);
      back = λ e. first_there u (all_substituted theta rest) (instances_of theta rest)
          (ap (λ (o : Option Tree). with_first o (all_substituted theta rest)) (sym one)
          ∙ before.back e
          ∙ ap (λ (o : Option Tree). with_first o (instances_of theta rest)) makes);
      written = one_written cx theta head ps p rest function u image one is before.written;
    })
one_more cx theta head ps p rest function image u us None (Some e) next closed closed' over is makes
    make before one is_next =
    subst (λ (o : Option Theorem). AreDone cx theta head ps rest (app function image) o)
    (sym is_next.is) (record {
      differ = λ same. one.differs (same_first one.written u (all_substituted theta rest) us
          (ap (λ (o : Option Tree). with_first o (all_substituted theta rest)) (sym one.is_written)
          ∙ before.back same
          ∙ ap (λ (o : Option Tree). with_first o (instances_of theta rest)) makes
          ∙ ap (with_first (Some u)) make));
      left = app function one.left;
      written =
          one_written cx theta head ps p rest function one.written one.left one.is_written
          one.is_left before.written;
      closed = (closed, one.closed);
      says = is_next.says one.left image one.says;
      stays = λ s has. is_next.stays s has (over s has, tt) (one.stays s has, tt);
    })
one_more cx theta head ps p rest function image u us (Some d) None next closed closed' over is makes
    make before one is_next =
    subst (λ (o : Option Theorem). AreDone cx theta head ps rest (app function image) o)
    (sym is_next.is) (record {
      differ = before.differ;
      left = app before.left image;
      written = one_written cx theta head ps p rest before.left u image one is before.written;
      closed = (before.closed, closed');
      says = is_next.says before.left function before.says;
      stays =
          λ s has. is_next.stays s has (has.images (term (ground_pattern u)) image is, tt)
          (before.stays s has, tt);
    })
one_more cx theta head ps p rest function image u us (Some d) (Some e) next closed closed' over is
    makes make before one is_next =
    subst (λ (o : Option Theorem). AreDone cx theta head ps rest (app function image) o)
    (sym is_next.is) (record {
      differ = before.differ;
      left = app before.left one.left;
      written =
          one_written cx theta head ps p rest before.left one.written one.left one.is_written
          one.is_left before.written;
      closed = (before.closed, one.closed);
      says = is_next.says before.left function one.left image before.says one.says;
      stays =
          λ s has. is_next.stays s has tt (before.stays s has, (one.stays s has, tt));
    })

-- when all are done
pub all_done : (cx : Context) (theta : List (Option Tree)) (head : Pattern) (ps : RulePatterns)
    (us : Forest) (function : Pattern) (images : List Pattern) (o : Option Theorem)
    → instances_of theta ps ≡ Some us → function ≡ applied_to head images
    → AreDone cx theta head ps no_pattern function o → AreCompared cx theta ps us head images o
all_done cx theta head ps us function images None make is done = done.same refl ∙ make
all_done cx theta head ps us function images (Some t) make is done =
    let all : (all : Forest) × (whole : List Pattern) × (all_substituted theta ps ≡ Some all) ×
    AreImages cx.program.sig cx.names (ground_patterns all) whole ×
    (applied_to done.left [] ≡ applied_to head whole) =
    done.written cx (grown_none cx) no_tree [] refl tt in
    record {
      written = all.0;
      are_written = all.2;
      differ = λ same. done.differ (all.2 ∙ ap (λ (ts : Forest). Some ts) same ∙ sym make);
      lefts = all.1;
      are_lefts = all.3;
      closed = subst HasNoVariable all.4 done.closed;
      says = done.says ∙ ap (λ (q : Pattern). equal q function) all.4
          ∙ ap (equal (applied_to head all.1)) is;
      stays = done.stays;
    }

-- ---- the loop

-- the arguments before number i are done
abbrev pub AreDoneBefore : Context → List RulePat → List RulePat → ℕ → Pattern → Pattern
    → Option Theorem → Type 0
AreDoneBefore cx args ws i head function made =
    (variables : List ℕ) (theta : List (Option Tree)) (refs : List SortRef) (us : Forest)
    → AreInstances cx.program.sig variables theta (plain_patterns args) refs us
    → plain_patterns ws ≡ ground_patterns us
    → AreDone cx theta head (plain_patterns args) (plain_patterns (drop i args)) function made

pub done_before_none : (cx : Context) (args ws : List RulePat) (head : Pattern)
    → AreDoneBefore cx args ws 0 head head None
done_before_none cx args ws head =
    λ variables theta refs us h is. done_none cx theta head (plain_patterns args)

instances_back : (a b : Context) (variables : List ℕ) (theta : List (Option Tree))
    (ps : RulePatterns) (refs : List SortRef) (us : Forest) → HasGrown a b
    → AreInstances b.program.sig variables theta ps refs us
    → AreInstances a.program.sig variables theta ps refs us
instances_back a b variables theta ps refs us g h =
    subst (λ (program : Program). AreInstances program.sig variables theta ps refs us) g.program h

pub done_before_next : (a b : Context) (args ws : List RulePat) (i : ℕ) (p w : RulePat)
    (head function image : Pattern) (made one next : Option Theorem) → HasGrown a b
    → i < length args → p ≡ get_or args i p → w ≡ get_or ws i w
    → plain_patterns (drop i args)
    ≡ more_patterns (plain_pattern p) (plain_patterns (drop (i + 1) args))
    → HasNoVariable function → HasNoVariable image → IsOverContext b function
    → image_of b.program.sig b.names (plain_pattern w) ≡ Some image
    → AreDoneBefore a args ws i head function made
    → Compares b (plain_pattern p) (plain_pattern w) image one
    → IsApplication b function image made one next
    → AreDoneBefore b args ws (i + 1) head (app function image) next
done_before_next a b args ws i p w head function image made one next g low at on split closed
    closed' over is before compared is_next =
    λ variables theta refs us h ground.
    let this : IsItem b.program.sig variables theta args i p w =
    item_of b.program.sig variables theta args ws refs us i p w h ground low at on in
    let old : AreDone a theta head (plain_patterns args) (plain_patterns (drop i args)) function
    made =
    before variables theta refs us
    (instances_back a b variables theta (plain_patterns args) refs us g h) ground in
    let now : AreDone b theta head (plain_patterns args)
    (more_patterns (plain_pattern p) (plain_patterns (drop (i + 1) args))) function made =
    subst (λ (rest : RulePatterns). AreDone b theta head (plain_patterns args) rest function made)
    split (done_grown a b theta head (plain_patterns args) (plain_patterns (drop i args))
    function made g old) in
    let image_is : image_of b.program.sig b.names (ground_pattern this.tree) ≡ Some image =
    ap (image_of b.program.sig b.names) (sym this.is) ∙ is in
    one_more b theta head (plain_patterns args) (plain_pattern p)
    (plain_patterns (drop (i + 1) args)) function image this.tree this.others made one next
    closed closed' over image_is this.instance.makes this.make_others now
    (compared variables theta this.sort this.tree this.instance this.is) is_next

pub done_before_all : (cx : Context) (args ws : List RulePat) (head function : Pattern)
    (images : List Pattern) (made : Option Theorem) → function ≡ applied_to head images
    → AreDoneBefore cx args ws (length args) head function made
    → AllCompare cx (plain_patterns args) (plain_patterns ws) head images made
done_before_all cx args ws head function images made is done = λ variables theta refs us h ground.
    all_done cx theta head (plain_patterns args) us function images made h.make is
    (subst (λ (rest : RulePatterns). AreDone cx theta head (plain_patterns args) rest function made)
    (at_end args) (done variables theta refs us h ground))
  where
    at_end : (args : List RulePat) → plain_patterns (drop (length args) args) ≡ no_pattern
    at_end [] = refl
    at_end (a ∷ args) = at_end args

-- what is known to equal the function and the argument
pub made_says : (cx : Context) (args ws : List RulePat) (i : ℕ) (head function : Pattern)
    (made : Option Theorem) → MakeTerms cx.program.sig (plain_patterns args) (plain_patterns ws)
    → AreDoneBefore cx args ws i head function made → SaysEqualTo function made
made_says cx args ws i head function None made done = tt
made_says cx args ws i head function (Some t) (variables, theta, refs, us, h, is) done =
    let m : AreMended cx theta head (plain_patterns args) (plain_patterns (drop i args)) function
    t =
    done variables theta refs us h is in
    (m.left, m.says, m.closed)

pub compared_says : (cx : Context) (p w : RulePattern) (image : Pattern) (one : Option Theorem)
    → MakesTerm cx.program.sig p w → Compares cx p w image one → SaysEqualTo image one
compared_says cx p w image None made compared = tt
compared_says cx p w image (Some t) (variables, theta, sort, u, h, is) compared =
    let j : IsJoined cx theta p u image t = compared variables theta sort u h is in
    (j.left, j.says, j.closed)

-- the rest of the images
pub left_applied : (images : List Pattern) (i : ℕ) (function q : Pattern) → i < length images
    → q ≡ get_or images i q
    → applied_to function (drop i images) ≡ applied_to (app function q) (drop (i + 1) images)
left_applied [] i function q low at = absurd (omega (arith, low))
left_applied (r ∷ images) zero function q low at =
    ap (λ (x : Pattern). applied_to (app function x) images) (sym at)
left_applied (r ∷ images) (suc i) function q low at =
    left_applied images i function q (omega (arith, low)) at
    ∙ ap (λ (k : ℕ). applied_to (app function q) (drop k (r ∷ images))) (further i)

pub none_left : (images : List Pattern) (n : ℕ) (function : Pattern) → n ≡ length images
    → applied_to function (drop n images) ≡ function
none_left images n function is =
    ap (λ (k : ℕ). applied_to function (drop k images)) is ∙ at_end images
  where
    at_end : (qs : List Pattern) → applied_to function (drop (length qs) qs) ≡ function
    at_end [] = refl
    at_end (q ∷ qs) = at_end qs

-- the patterns from number i on
pub next_pattern : (args : List RulePat) (i : ℕ) (p : RulePat) → i < length args
    → p ≡ get_or args i p
    → plain_patterns (drop i args)
    ≡ more_patterns (plain_pattern p) (plain_patterns (drop (i + 1) args))
next_pattern [] i p low is = absurd (omega (arith, low))
next_pattern (a ∷ args) zero p low is =
    ap (λ (q : RulePat). more_patterns (plain_pattern q) (plain_patterns args)) (sym is)
next_pattern (a ∷ args) (suc i) p low is =
    next_pattern args i p (omega (arith, low)) is
    ∙ ap (λ (k : ℕ). more_patterns (plain_pattern p) (plain_patterns (drop k (a ∷ args))))
    (further i)
