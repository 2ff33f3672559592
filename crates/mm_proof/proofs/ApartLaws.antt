-- Texts without a common variable.
use Rattle.std.proofs.Common.{◌≡◌, ℕ, Bool, true, false, List, [], ◌∷◌, refl, ap, ◌∙◌, sym, eq-eqb}
use Rattle.std.proofs.Common.{eqb-true}
use Rattle.std.proofs.lemmas.Bool.{false≢true}
use Rattle.std.specs.Prelude.{◌==◌, ◌&&◌, ◌||◌, not, map, bytes_eq}
use Rattle.std.specs.List.{list_all}
use Rattle.mm_text.specs.Bytes.{Token}
use Rattle.mm_database.specs.Database.{Context}
use Rattle.mm_database.specs.Proofs.{symbols_apart, texts_apart}
use Rattle.ml_pat.specs.Patterns.{Pattern}
use Rattle.mm_proof.specs.Tokens.{Naming, letters_of, text_by}
use Rattle.ml_pat.specs.Leaves.{LeafFacts, EachLeaf}
use Rattle.mm_proof.specs.Serving.{Serves, punctuation}
use Rattle.ml_pat.proofs.LeafLaws.{EachLeaf-implied, other_leaves, both_true}
use Rattle.mm_proof.proofs.LeafLaws.{tested_leaves, list_all-text}

first_constant : (a b : Bool) (e s : Bool) → b ≡ false → (not (a && b) || (e && s)) ≡ true
first_constant true b e s h = rw h refl
first_constant false b e s h = refl

constant_first : (a b : Bool) (e s : Bool) → a ≡ false → (not (a && b) || (e && s)) ≡ true
constant_first a b e s h = rw h refl

-- a constant is apart from every symbol
pub apart-constant : (c : Context) (x t : Token) → c.variables t ≡ false
    → symbols_apart c x t ≡ true
apart-constant c x t h =
    first_constant (c.variables x) (c.variables t) (not (bytes_eq x t)) (c.scope.apart x t) h

pub constant-apart : (c : Context) (x t : Token) → c.variables t ≡ false
    → symbols_apart c t x ≡ true
constant-apart c x t h =
    constant_first (c.variables t) (c.variables x) (not (bytes_eq t x)) (c.scope.apart t x) h

fixed_apart : (c : Context) (x : Token) (ts : List Token) → map c.variables ts ≡ map (λ t. false) ts
    → map (symbols_apart c x) ts ≡ map (λ t. true) ts
fixed_apart c x [] h = refl
fixed_apart c x (t ∷ ts) h =
    let here : c.variables t ≡ false = ap first h in
    let rest : map c.variables ts ≡ map (λ t. false) ts = ap others h in
    ap (λ b. b ∷ map (symbols_apart c x) ts) (apart-constant c x t here)
    ∙ ap (λ bs. true ∷ bs) (fixed_apart c x ts rest)
  where
    first : List Bool → Bool
    first [] = false
    first (b ∷ bs) = b

    others : List Bool → List Bool
    others [] = []
    others (b ∷ bs) = bs

apart_fixed : (c : Context) (x : Token) (ts : List Token) → map c.variables ts ≡ map (λ t. false) ts
    → map (λ t. symbols_apart c t x) ts ≡ map (λ t. true) ts
apart_fixed c x [] h = refl
apart_fixed c x (t ∷ ts) h =
    let here : c.variables t ≡ false = ap first h in
    let rest : map c.variables ts ≡ map (λ t. false) ts = ap others h in
    ap (λ b. b ∷ map (λ u. symbols_apart c u x) ts) (constant-apart c x t here)
    ∙ ap (λ bs. true ∷ bs) (apart_fixed c x ts rest)
  where
    first : List Bool → Bool
    first [] = false
    first (b ∷ bs) = b

    others : List Bool → List Bool
    others [] = []
    others (b ∷ bs) = bs

-- an object variable is apart from a pattern in which it does not occur
pub text_apart : (c : Context) (l n : Naming) (known : LeafFacts) (x : ℕ) (p : Pattern)
    → Serves c l n known → known.object x → EachLeaf (other_leaves x known) p
    → texts_apart (symbols_apart c) (n.object x ∷ []) (text_by (letters_of n) p) ≡ true
text_apart c l n known x p w hx h =
    both_true (list_all (symbols_apart c (n.object x)) (text_by (letters_of n) p)) true
    (list_all-text (symbols_apart c (n.object x)) n p
    (fixed_apart c (n.object x) punctuation w.fixed)
    (EachLeaf-implied (other_leaves x known) (tested_leaves (symbols_apart c (n.object x)) n) p
    (record {
      sort = λ i k. apart-constant c (n.object x) (n.sort i) (w.sort i k).constant;
      constant = λ i k. apart-constant c (n.object x) (n.constant i) (w.constant i k).constant;
      object = λ y k. w.objects_apart x y hx k.0 k.1;
      meta = λ i k. w.meta_apart x i hx k;
    }) h)) refl

all_alone : (c : Context) (x : Token) (ts : List Token)
    → list_all (λ t. symbols_apart c t x) ts ≡ true
    → list_all (λ t. list_all (symbols_apart c t) (x ∷ [])) ts ≡ true
all_alone c x [] h = refl
all_alone c x (t ∷ ts) h = go (symbols_apart c t x) h (all_alone c x ts)
  where
    go : (b : Bool) → (b && list_all (λ u. symbols_apart c u x) ts) ≡ true
        → (list_all (λ u. symbols_apart c u x) ts ≡ true
        → list_all (λ u. list_all (symbols_apart c u) (x ∷ [])) ts ≡ true)
        → ((b && true) && list_all (λ u. list_all (symbols_apart c u) (x ∷ [])) ts) ≡ true
    go true h behind = behind h
    go false h behind = absurd (cc)

pub turned : (x y : ℕ) → (x == y) ≡ false → (y == x) ≡ false
turned x y h = go (y == x) refl
  where
    go : (b : Bool) → (y == x) ≡ b → (y == x) ≡ false
    go true is =
        let no : (x == y) ≡ true = eq-eqb x y (sym (eqb-true y x is)) in
        absurd (false≢true (sym h ∙ no))
    go false is = is

pub apart_text : (c : Context) (l n : Naming) (known : LeafFacts) (x : ℕ) (p : Pattern)
    → Serves c l n known → known.object x → EachLeaf (other_leaves x known) p
    → texts_apart (symbols_apart c) (text_by (letters_of n) p) (n.object x ∷ []) ≡ true
apart_text c l n known x p w hx h =
    all_alone c (n.object x) (text_by (letters_of n) p)
    (list_all-text (λ t. symbols_apart c t (n.object x)) n p
    (apart_fixed c (n.object x) punctuation w.fixed)
    (EachLeaf-implied (other_leaves x known) (tested_leaves (λ t. symbols_apart c t (n.object x)) n)
    p (record {
      sort = λ i k. constant-apart c (n.object x) (n.sort i) (w.sort i k).constant;
      constant = λ i k. constant-apart c (n.object x) (n.constant i) (w.constant i k).constant;
      object = λ y k. w.objects_apart y x k.0 hx (turned x y k.1);
      meta = λ i k. w.apart_meta x i hx k;
    }) h))
