-- Lists of heads that a set keeps.
use Rattle.std.proofs.Common.{◌≡◌, Bool, true, false, List, [], ◌∷◌, ◌++◌, refl, sym, ◌∙◌, ap}
use Rattle.std.specs.Prelude.{◌==◌, ◌&&◌, ◌||◌, if◌then◌else◌}
use Rattle.std.specs.List.{list_any, position}
use Rattle.std.proofs.Math.Path.{fun_ext}
use Rattle.std.proofs.lemmas.List.Folds.{list_any-append}
use Rattle.term_core.specs.TreeTest.{truth_eq}
use mathlib.Core.Bool.{beq}
use Rattle.indexmap.specs.IndexSet.{insert_key}
use Rattle.pat_matrix.specs.Heads.{PlainHead, head_eq}
use Rattle.pat_matrix.specs.HeadView.{head_of, is_listed}
use Rattle.pat_matrix.specs.declared.heads.Head.{Head}
use Rattle.pat_matrix.specs.declared.heads.Head.TheVariants as form
use Rattle.pat_matrix.specs.contracts.heads.HeadPartialEq.TheImpl as derived
use Rattle.pat_matrix.proofs.HeadLaws.{head_eq-true}

and_false : (b : Bool) → false ≡ (b && false)
and_false true = refl
and_false false = refl

or_false : (b : Bool) → (b || false) ≡ b
or_false true = refl
or_false false = refl

absorbed : (a b : Bool) → (a || b) ≡ ((a || b) || a)
absorbed true b = refl
absorbed false true = refl
absorbed false false = refl

beside : (a b c : Bool) → b ≡ (b || c) → (a || b) ≡ ((a || b) || c)
beside true b c is = refl
beside false b c is = is

same_truths : (t a b : Bool) → (t && beq a b) ≡ (t && truth_eq a b)
same_truths t true true = refl
same_truths t true false = refl
same_truths t false true = refl
same_truths t false false = refl

-- the derived test is the test of the plain heads
pub same_head : (k l : Head) → derived.ghosts.eq k l ≡ head_eq (head_of k) (head_of l)
same_head (form.Int s n) (form.Int r m) = refl
same_head (form.Int s n) (form.Bool r b) = and_false (s.0 == r.0)
same_head (form.Int s n) (form.Text r words) = and_false (s.0 == r.0)
same_head (form.Int s n) (form.Ctor g m) = refl
same_head (form.Int s n) (form.Inj c d) = refl
same_head (form.Bool s a) (form.Int r m) = and_false (s.0 == r.0)
same_head (form.Bool s a) (form.Bool r b) = same_truths (s.0 == r.0) a b
same_head (form.Bool s a) (form.Text r words) = and_false (s.0 == r.0)
same_head (form.Bool s a) (form.Ctor g m) = refl
same_head (form.Bool s a) (form.Inj c d) = refl
same_head (form.Text s text) (form.Int r m) = and_false (s.0 == r.0)
same_head (form.Text s text) (form.Bool r b) = and_false (s.0 == r.0)
same_head (form.Text s text) (form.Text r words) = refl
same_head (form.Text s text) (form.Ctor g m) = refl
same_head (form.Text s text) (form.Inj c d) = refl
same_head (form.Ctor f n) (form.Int r m) = refl
same_head (form.Ctor f n) (form.Bool r b) = refl
same_head (form.Ctor f n) (form.Text r words) = refl
same_head (form.Ctor f n) (form.Ctor g m) = refl
same_head (form.Ctor f n) (form.Inj c d) = refl
same_head (form.Inj a b) (form.Int r m) = refl
same_head (form.Inj a b) (form.Bool r c) = refl
same_head (form.Inj a b) (form.Text r words) = refl
same_head (form.Inj a b) (form.Ctor g m) = refl
same_head (form.Inj a b) (form.Inj c d) = refl

-- a head that is listed already
listed_first : (ks : List Head) (k l : Head) (h : PlainHead) → derived.ghosts.eq k l ≡ true
    → is_listed (l ∷ ks) h ≡ (is_listed (l ∷ ks) h || head_eq (head_of k) h)
listed_first ks k l h is =
    let same : head_of k ≡ head_of l =
    head_eq-true (head_of k) (head_of l) (sym (same_head k l) ∙ is) in
    rw same (absorbed (head_eq (head_of l) h) (is_listed ks h))

listed_later : (ks : List Head) (k l : Head) (h : PlainHead)
    → (list_any (derived.ghosts.eq k) ks ≡ true
    → is_listed ks h ≡ (is_listed ks h || head_eq (head_of k) h))
    → (b : Bool) → derived.ghosts.eq k l ≡ b
    → (b || list_any (derived.ghosts.eq k) ks) ≡ true
    → is_listed (l ∷ ks) h ≡ (is_listed (l ∷ ks) h || head_eq (head_of k) h)
listed_later ks k l h rest true is e = listed_first ks k l h is
listed_later ks k l h rest false is e = beside (head_eq (head_of l) h) _ _ (rest e)

listed_already : (ks : List Head) (k : Head) (h : PlainHead)
    → list_any (derived.ghosts.eq k) ks ≡ true
    → is_listed ks h ≡ (is_listed ks h || head_eq (head_of k) h)
listed_already [] k h e = absurd (let no : ⊥ = cc in no)
listed_already (l ∷ ks) k h e =
    listed_later ks k l h (listed_already ks k h) (derived.ghosts.eq k l) refl e

-- a set lists one more head after an insertion
pub is_listed-insert : (ks : List Head) (k : Head) (h : PlainHead)
    → is_listed (insert_key derived.ghosts.eq ks k) h ≡ (is_listed ks h || head_eq (head_of k) h)
is_listed-insert ks k h = told (list_any (derived.ghosts.eq k) ks) refl where
  told : (b : Bool) → list_any (derived.ghosts.eq k) ks ≡ b
      → is_listed (insert_key derived.ghosts.eq ks k) h ≡ (is_listed ks h || head_eq (head_of k) h)
  told true is =
      ap (λ (b : Bool). is_listed (if b then ks else ks ++ k ∷ []) h) is
      ∙ listed_already ks k h is
  told false is =
      ap (λ (b : Bool). is_listed (if b then ks else ks ++ k ∷ []) h) is
      ∙ list_any-append (λ (l : Head). head_eq (head_of l) h) ks (k ∷ [])
      ∙ ap (λ (b : Bool). is_listed ks h || b) (or_false (head_eq (head_of k) h))

-- the index of a head by the derived test
pub found_index : (h : Head) (k : PlainHead) (ks : List Head) → head_of h ≡ k
    → position (derived.ghosts.eq h) ks ≡ position (λ (l : Head). head_eq k (head_of l)) ks
found_index h k ks is =
    ap (λ (f : Head → Bool). position f ks)
    (fun_ext (λ (l : Head). same_head h l ∙ ap (λ (j : PlainHead). head_eq j (head_of l)) is))
