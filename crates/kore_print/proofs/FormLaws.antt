-- What is written for each form of a sort or a pattern is its spelling.
use Rattle.std.proofs.Common.{◌≡◌, ℕ, Bool, false, List, [], ◌∷◌, ◌++◌, map, Some, refl, ap, sym}
use Rattle.std.proofs.Common.{◌∙◌, subst, Vec, Global}
use Rattle.std.specs.Global.{Box}
use Rattle.kore_text.specs.declared.names.Op.{Op}
use Rattle.kore_text.specs.declared.names.Binder.{Binder}
use Rattle.kore_text.specs.declared.names.Built.TheVariants.{Connective, Binding, Fold}
use Rattle.kore_text.specs.TokenStream.{KoreToken, identifier, builtin, mark}
use Rattle.kore_text.specs.Trees.{SortTree, sort_applied, sort_trees, PatternTree, string}
use Rattle.kore_text.specs.Trees.{symbol_applied, connected, binder_applied, folded, pattern_trees}
use Rattle.kore_text.specs.Grammar.{Requirement, any, Spelling, listed, spell_sort, spell_sorts}
use Rattle.kore_text.specs.Grammar.{spell_pattern, spell_patterns}
use Rattle.kore_ast.specs.declared.tree.Sort.{Sort}
use Rattle.kore_ast.specs.declared.tree.SortForm.{SortForm}
use Rattle.kore_ast.specs.declared.tree.SortForm.TheVariants as sort_form
use Rattle.kore_ast.specs.declared.tree.Pat.{Pat}
use Rattle.kore_ast.specs.declared.tree.PatForm.{PatForm}
use Rattle.kore_ast.specs.declared.tree.PatForm.TheVariants as form
use Rattle.kore_ast.specs.Plain.{plain_sort, pattern_tree}
use Rattle.kore_ast.proofs.PlainLaws.{plain-sort-App, plain-pattern-Text, plain-pattern-App}
use Rattle.kore_ast.proofs.PlainLaws.{plain-pattern-Built, plain-pattern-Bound, plain-pattern-Fold}
use Rattle.kore_print.specs.TokenText.{token_text, string_text}
use Rattle.kore_print.specs.CanonicalText.{text_of}
use Rattle.kore_print.specs.Writing.{Writes, spell_in_parentheses, spell_head}
use Rattle.kore_print.proofs.Written.{part_first, part_last, spell_sorts_trees}
use Rattle.kore_print.proofs.Written.{spell_patterns_trees}

-- If the text of a tree was written, it was written for each value that is the tree.

sort-is : (s : Sort) (f : SortForm) (t : SortTree) → s.form ≡ f
    → plain_sort (record { at = s.at; form = f }) ≡ t → t ≡ plain_sort s
sort-is s f t h e = sym (ap (λ (f : SortForm). plain_sort (record { at = s.at; form = f })) h ∙ e)

pattern-is : (p : Pat) (f : PatForm) (t : PatternTree) → p.form ≡ f
    → pattern_tree (record { at = p.at; form = f }) ≡ t → t ≡ pattern_tree p
pattern-is p f t h e =
    sym (ap (λ (f : PatForm). pattern_tree (record { at = p.at; form = f })) h ∙ e)

same-text : (spell : Spelling) (p : PatternTree) (t : PatternTree) (old new : List ℕ)
    → ((k : List Requirement) → text_of (spell k) ≡ text_of (spell_pattern false t k)) → t ≡ p
    → Writes spell old new → Writes (spell_pattern false p) old new
same-text spell p t old new same is h =
    λ k. h k
    ∙ ap (λ (x : List ℕ). old ++ x)
    (same k ∙ ap (λ (u : PatternTree). text_of (spell_pattern false u k)) is)

same-sort-text : (spell : Spelling) (s : SortTree) (t : SortTree) (old new : List ℕ)
    → ((k : List Requirement) → text_of (spell k) ≡ text_of (spell_sort t k)) → t ≡ s
    → Writes spell old new → Writes (spell_sort s) old new
same-sort-text spell s t old new same is h =
    λ k. h k
    ∙ ap (λ (x : List ℕ). old ++ x)
    (same k ∙ ap (λ (u : SortTree). text_of (spell_sort u k)) is)

-- the text of a token was added, and then the rest
pub token_first : (t : KoreToken) (part : List ℕ) (f : Spelling) (old mid new : List ℕ)
    → part ≡ token_text t → mid ≡ old ++ part → Writes f mid new → Writes (λ k. any t ∷ f k) old new
token_first t part f old mid new p m w =
    λ k. part_first (token_text t) old mid new (text_of (f k)) (text_of k)
    (m ∙ ap (λ (x : List ℕ). old ++ x) p) (w k)

-- sorts

pub written_sort : (s : Sort) (n : List ℕ) (ss : Vec Sort Global) (xs : List Sort)
    (old new : List ℕ) → s.form ≡ sort_form.App n ss → xs ≡ ss.items
    → Writes (spell_head (identifier n) (map plain_sort xs)) old new
    → Writes (spell_sort (plain_sort s)) old new
written_sort s n ss xs old new h x w =
    let t : SortTree = sort_applied s.at n (sort_trees (map plain_sort ss.items)) in
    same-sort-text (spell_head (identifier n) (map plain_sort xs)) (plain_sort s) t old new
    (λ k. ap (λ (xs : List Sort).
    n ++ (123 ∷ text_of (listed (map spell_sort (map plain_sort xs)) 125 k))) x
    ∙ ap (λ (fs : List Spelling). n ++ (123 ∷ text_of (listed fs 125 k)))
    (spell_sorts_trees (map plain_sort ss.items)))
    (sort-is s (sort_form.App n ss) t h (plain-sort-App s.at n ss)) w

-- patterns

pub written_string : (p : Pat) (t old new : List ℕ) → p.form ≡ form.Text t
    → new ≡ old ++ string_text t → Writes (spell_pattern false (pattern_tree p)) old new
written_string p t old new h w =
    same-text (spell_pattern false (string 0 t)) (pattern_tree p) (string p.at t) old new
    (λ k. refl)
    (pattern-is p (form.Text t) (string p.at t) h (plain-pattern-Text p.at t))
    (λ k. part_last (string_text t) old new (text_of k) w)

arguments-text : (ss : List SortTree) (ps : List PatternTree) (head : List ℕ) (k : List Requirement)
    → head
    ++ (123
    ∷ text_of (listed (map spell_sort ss) 125
    (any (mark 40) ∷ listed (map (spell_pattern false) ps) 41 k)))
    ≡ head
    ++ (123
    ∷ text_of (listed (spell_sorts (sort_trees ss)) 125
    (any (mark 40) ∷ listed (spell_patterns false (pattern_trees ps)) 41 k)))
arguments-text ss ps head k =
    ap (λ (fs : List Spelling). head
    ++ (123
    ∷ text_of
    (listed fs 125 (any (mark 40) ∷ listed (map (spell_pattern false) ps) 41 k))))
    (spell_sorts_trees ss)
    ∙ ap (λ (fs : List Spelling). head
    ++ (123
    ∷ text_of
    (listed (spell_sorts (sort_trees ss)) 125 (any (mark 40) ∷ listed fs 41 k))))
    (spell_patterns_trees ps)

applied-text : (ss ts : List SortTree) (ps qs : List PatternTree) (t : KoreToken)
    (k : List Requirement)
    → ss ≡ ts → ps ≡ qs
    → text_of (spell_head t ss (spell_in_parentheses ps k))
    ≡ token_text t
    ++ (123
    ∷ text_of (listed (spell_sorts (sort_trees ts)) 125
    (any (mark 40) ∷ listed (spell_patterns false (pattern_trees qs)) 41 k)))
applied-text ss ts ps qs t k a b =
    ap (λ (xs : List SortTree). text_of (spell_head t xs (spell_in_parentheses ps k))) a
    ∙ ap (λ (xs : List PatternTree). text_of (spell_head t ts (spell_in_parentheses xs k))) b
    ∙ arguments-text ts qs (token_text t) k

pub written_application : (p : Pat) (n : List ℕ) (ss : Vec Sort Global) (ps : Vec Pat Global)
    (xs : List Sort) (ys : List Pat) (old mid new : List ℕ) → p.form ≡ form.App n ss ps
    → xs ≡ ss.items → ys ≡ ps.items → Writes (spell_head (identifier n) (map plain_sort xs)) old mid
    → Writes (spell_in_parentheses (map pattern_tree ys)) mid new
    → Writes (spell_pattern false (pattern_tree p)) old new
written_application p n ss ps xs ys old mid new h x y v w =
    let t : PatternTree =
    symbol_applied p.at n (sort_trees (map plain_sort ss.items))
    (pattern_trees (map pattern_tree ps.items)) in
    same-text (λ k. spell_head (identifier n) (map plain_sort xs)
    (spell_in_parentheses (map pattern_tree ys) k)) (pattern_tree p) t old new
    (λ k. applied-text (map plain_sort xs) (map plain_sort ss.items) (map pattern_tree ys)
    (map pattern_tree ps.items) (identifier n) k (ap (map plain_sort) x)
    (ap (map pattern_tree) y))
    (pattern-is p (form.App n ss ps) t h (plain-pattern-App p.at n ss ps))
    (λ k. w k ∙ v (spell_in_parentheses (map pattern_tree ys) k))

pub written_connective : (p : Pat) (o : Op) (ss : Vec Sort Global) (ps : Vec Pat Global)
    (xs : List Sort) (ys : List Pat) (old mid new : List ℕ) → p.form ≡ form.Built o ss ps
    → xs ≡ ss.items → ys ≡ ps.items
    → Writes (spell_head (builtin (Some (Connective o))) (map plain_sort xs)) old mid
    → Writes (spell_in_parentheses (map pattern_tree ys)) mid new
    → Writes (spell_pattern false (pattern_tree p)) old new
written_connective p o ss ps xs ys old mid new h x y v w =
    let t : PatternTree =
    connected p.at o (sort_trees (map plain_sort ss.items))
    (pattern_trees (map pattern_tree ps.items)) in
    same-text (λ k. spell_head (builtin (Some (Connective o))) (map plain_sort xs)
    (spell_in_parentheses (map pattern_tree ys) k)) (pattern_tree p) t old new
    (λ k. applied-text (map plain_sort xs) (map plain_sort ss.items) (map pattern_tree ys)
    (map pattern_tree ps.items) (builtin (Some (Connective o))) k (ap (map plain_sort) x)
    (ap (map pattern_tree) y))
    (pattern-is p (form.Built o ss ps) t h (plain-pattern-Built p.at o ss ps))
    (λ k. w k ∙ v (spell_in_parentheses (map pattern_tree ys) k))

-- the variable and the body of a binder, in parentheses
abbrev bound : PatternTree → PatternTree → Spelling
bound x q k = any (mark 40)
    ∷ spell_pattern false x (any (mark 44) ∷ spell_pattern false q (any (mark 41) ∷ k))

parts_bound : (x q : PatternTree) (old a b c d new : List ℕ) → a ≡ old ++ (40 ∷ [])
    → Writes (spell_pattern false x) a b → c ≡ b ++ (44 ∷ []) → Writes (spell_pattern false q) c d
    → new ≡ d ++ (41 ∷ []) → Writes (bound x q) old new
parts_bound x q old a b c d new e f g h i = λ k.
    let m : List Requirement = any (mark 41) ∷ k in
    let n : List Requirement = any (mark 44) ∷ spell_pattern false q m in
    part_first (40 ∷ []) old a new (text_of (spell_pattern false x n)) (text_of k) e
    (part_first (44 ∷ []) b c new (text_of (spell_pattern false q m)) (text_of k) g
    (part_last (41 ∷ []) d new (text_of k) i ∙ h m) ∙ f n)

pub bound_written : (v b : Pat) (x q : PatternTree) (old a m c d new : List ℕ) → pattern_tree v ≡ x
    → pattern_tree b ≡ q → a ≡ old ++ (40 ∷ []) → Writes (spell_pattern false (pattern_tree v)) a m
    → c ≡ m ++ (44 ∷ []) → Writes (spell_pattern false (pattern_tree b)) c d → new ≡ d ++ (41 ∷ [])
    → Writes (bound x q) old new
bound_written v b x q old a m c d new s t e f g h i =
    let here : Writes (spell_pattern false x) a m =
    subst (λ (p : PatternTree). Writes (spell_pattern false p) a m) s f in
    let there : Writes (spell_pattern false q) c d =
    subst (λ (p : PatternTree). Writes (spell_pattern false p) c d) t h in
    parts_bound x q old a m c d new e here g there i

pub written_binding : (p : Pat) (o : Binder) (ss : Vec Sort Global) (x q : Box Pat) (xs : List Sort)
    (old mid new : List ℕ) → p.form ≡ form.Bound o ss x q → xs ≡ ss.items
    → Writes (spell_head (builtin (Some (Binding o))) (map plain_sort xs)) old mid
    → Writes (bound (pattern_tree x.value) (pattern_tree q.value)) mid new
    → Writes (spell_pattern false (pattern_tree p)) old new
written_binding p o ss x q xs old mid new h y v w =
    let t : PatternTree =
    binder_applied p.at o (sort_trees (map plain_sort ss.items)) (pattern_tree x.value)
    (pattern_tree q.value) in
    let rest : Spelling = bound (pattern_tree x.value) (pattern_tree q.value) in
    same-text (λ k. spell_head (builtin (Some (Binding o))) (map plain_sort xs) (rest k))
    (pattern_tree p) t old new
    (λ k. ap (λ (xs : List Sort). token_text (builtin (Some (Binding o)))
    ++ (123 ∷ text_of (listed (map spell_sort (map plain_sort xs)) 125 (rest k)))) y
    ∙ ap (λ (fs : List Spelling).
    token_text (builtin (Some (Binding o))) ++ (123 ∷ text_of (listed fs 125 (rest k))))
    (spell_sorts_trees (map plain_sort ss.items)))
    (pattern-is p (form.Bound o ss x q) t h (plain-pattern-Bound p.at o ss x q))
    (λ k. w k ∙ v (rest k))

pub written_fold : (p r : Pat) (left : Bool) (q : Box Pat) (old mid a b new : List ℕ)
    → p.form ≡ form.Fold left q → pattern_tree r ≡ pattern_tree q.value
    → Writes (spell_head (builtin (Some (Fold left))) []) old mid → a ≡ mid ++ (40 ∷ [])
    → Writes (spell_pattern false (pattern_tree r)) a b → new ≡ b ++ (41 ∷ [])
    → Writes (spell_pattern false (pattern_tree p)) old new
written_fold p r left q old mid a b new h x v e y g =
    let f : Writes (spell_pattern false (pattern_tree q.value)) a b =
    subst (λ (p : PatternTree). Writes (spell_pattern false p) a b) x y in
    let t : PatternTree = folded p.at left (pattern_tree q.value) in
    let rest : Spelling =
    λ k. any (mark 40) ∷ spell_pattern false (pattern_tree q.value) (any (mark 41) ∷ k) in
    same-text (λ k. spell_head (builtin (Some (Fold left))) [] (rest k)) (pattern_tree p) t old new
    (λ k. refl)
    (pattern-is p (form.Fold left q) t h (plain-pattern-Fold p.at left q))
    (λ k. part_first (40 ∷ []) mid a new
    (text_of (spell_pattern false (pattern_tree q.value) (any (mark 41) ∷ k))) (text_of k) e
    (part_last (41 ∷ []) b new (text_of k) g ∙ f (any (mark 41) ∷ k)) ∙ v (rest k))
