-- A text spells one definition and one pattern.
use Rattle.std.proofs.Common.{◌≡◌, ℕ, Bool, true, false, not, ◌||◌, IsTrue, List, [], ◌∷◌, map}
use Rattle.std.proofs.Common.{refl, sym, ap, ◌∙◌, subst, arith, codes, if◌then◌else◌}
use Rattle.std.specs.Str.{bytes_eq}
use Rattle.kore_text.specs.TokenStream.{KoreToken, identifier, mark, assign, Stream, end}
use Rattle.kore_text.specs.TokenStream.{no_token_at, token, token_stream}
use Rattle.kore_text.specs.Trees.{SortTree, PatternTree, ImportDeclaration, SortDeclaration}
use Rattle.kore_text.specs.Trees.{SymbolDeclaration, AliasDeclaration, AxiomDeclaration, ModuleTree}
use Rattle.kore_text.specs.Trees.{DefinitionTree, Declaration, import_declaration, sort_declaration}
use Rattle.kore_text.specs.Trees.{symbol_declaration, alias_declaration, axiom_declaration}
use Rattle.kore_text.specs.Trees.{claim_declaration}
use Rattle.kore_text.specs.Grammar.{Requirement, placed, any, Spelling, listed, in_order}
use Rattle.kore_text.specs.Grammar.{TakesTokens, spell_names, spell_sort, spell_pattern}
use Rattle.kore_text.specs.Grammar.{spell_attributes, spell_signature, keyword, sort_word}
use Rattle.kore_text.specs.Grammar.{symbol_word, spell_import, spell_sort_declaration}
use Rattle.kore_text.specs.Grammar.{spell_symbol_declaration, spell_alias, spell_statement}
use Rattle.kore_text.specs.Grammar.{spell_declaration, spell_body, spell_module}
use Rattle.kore_text.specs.Apart.{Apart}
use Rattle.kore_text.proofs.Reaching.{comes}
use Rattle.kore_text.proofs.Accepting.{sort-plain, plain-pattern}
use Rattle.kore_ast.specs.KoreText.{ReadsPattern, ReadsDefinition}
use Rattle.kore_ast.specs.Streams.{after}
use Rattle.kore_rules.proofs.OnePattern.{Agree, any-one, placed-one, all-told, both-same, list-told}
use Rattle.kore_rules.proofs.OnePattern.{brace-closes, paren-closes, names-same, identifiers-same}
use Rattle.kore_rules.proofs.OnePattern.{names-one, attributes-one, sort-told, pattern-told}

-- sorts in parentheses, a colon and a sort
signature-one : (ss rs : List SortTree) (t u : SortTree) (v w : List Requirement) (s d e : Stream)
    → Apart v d → Apart w e → TakesTokens (spell_signature ss t v) s d
    → TakesTokens (spell_signature rs u w) s e
    → Agree {T = List SortTree × SortTree} (ss, t) (rs, u) v w d e
signature-one ss rs t u v w s d e av aw h k =
    let v1 : List Requirement = any (mark 58) ∷ spell_sort t v in
    let w1 : List Requirement = any (mark 58) ∷ spell_sort u w in
    let a =
    any-one (mark 40) (mark 40) (listed (map spell_sort ss) 41 v1)
    (listed (map spell_sort rs) 41 w1) s d e h k in
    let b =
    list-told spell_sort sort-plain 41 paren-closes ss rs (all-told spell_sort sort-told ss) v1
    w1 a.to d e a.first a.second in
    let c =
    any-one (mark 58) (mark 58) (spell_sort t v) (spell_sort u w) b.to d e b.first b.second in
    let f = sort-told t u v w c.to d e av aw c.first c.second in
    record { same = λ i. (b.same i, f.same i); to = f.to; first = f.first; second = f.second }

keyword-one : (p q : ℕ) (n m : List ℕ) (v w : List Requirement) (s d e : Stream)
    → TakesTokens (keyword p n ∷ v) s d → TakesTokens (keyword q m ∷ w) s e
    → Agree {T = ℕ × List ℕ} (p, n) (q, m) v w d e
keyword-one p q n m v w s d e h k =
    let a = placed-one p q (identifier n) (identifier m) v w s d e h k in
    let same = names-same p q n m a.same in
    record { same = λ i. (same.0 i, same.1 i); to = a.to; first = a.first; second = a.second }

named-one : (n m : List ℕ) (v w : List Requirement) (s d e : Stream)
    → TakesTokens (any (identifier n) ∷ v) s d → TakesTokens (any (identifier m) ∷ w) s e
    → Agree n m v w d e
named-one n m v w s d e h k =
    let a = any-one (identifier n) (identifier m) v w s d e h k in
    record { same = identifiers-same n m a.same; to = a.to; first = a.first; second = a.second }

-- a number for each keyword, and whether the keyword is that of a hooked thing
abbrev word_kind : List ℕ → ℕ
word_kind n =
    if bytes_eq n (codes "endmodule") then 0
    else (if bytes_eq n (codes "import") then 1
    else (if bytes_eq n (codes "sort") then 2
    else (if bytes_eq n (codes "hooked-sort") then 2
    else (if bytes_eq n (codes "symbol") then 3
    else (if bytes_eq n (codes "hooked-symbol") then 3
    else (if bytes_eq n (codes "alias") then 4
    else (if bytes_eq n (codes "axiom") then 5
    else (if bytes_eq n (codes "claim") then 6 else 7))))))))

abbrev is_hooked : List ℕ → Bool
is_hooked n = bytes_eq n (codes "hooked-sort") || bytes_eq n (codes "hooked-symbol")

abbrev kind : Declaration → ℕ
kind (import_declaration d) = 1
kind (sort_declaration d) = 2
kind (symbol_declaration d) = 3
kind (alias_declaration d) = 4
kind (axiom_declaration d) = 5
kind (claim_declaration d) = 6

-- what comes after the parts of an alias
abbrev behind_vars : AliasDeclaration → Spelling
behind_vars d k = any assign ∷ spell_pattern false d.body (spell_attributes d.attributes k)

abbrev behind_sorts : AliasDeclaration → Spelling
behind_sorts d k = any (mark 40) ∷ listed (map (spell_pattern false) d.vars) 41 (behind_vars d k)

abbrev behind_left : AliasDeclaration → Spelling
behind_left d k = any (mark 123) ∷ listed (map spell_sort d.left_sorts) 125 (behind_sorts d k)

abbrev behind_signature : AliasDeclaration → Spelling
behind_signature d k =
    any (identifier (codes "where")) ∷ any (identifier d.left_name) ∷ behind_left d k

abbrev behind_params : AliasDeclaration → Spelling
behind_params d k = spell_signature d.args d.result (behind_signature d k)

abbrev behind_name : AliasDeclaration → Spelling
behind_name d k = spell_names d.params (behind_params d k)

abbrev behind_alias : AliasDeclaration → Spelling
behind_alias d k = any (identifier d.name) ∷ behind_name d k

kind-some : (x : Declaration) → kind x ≡ 0 → ⊥
kind-some (import_declaration d) h = omega (arith, h)
kind-some (sort_declaration d) h = omega (arith, h)
kind-some (symbol_declaration d) h = omega (arith, h)
kind-some (alias_declaration d) h = omega (arith, h)
kind-some (axiom_declaration d) h = omega (arith, h)
kind-some (claim_declaration d) h = omega (arith, h)

sort-word-kind : (b : Bool) → (word_kind (sort_word b) ≡ 2) × (is_hooked (sort_word b) ≡ b)
sort-word-kind true = (refl, refl)
sort-word-kind false = (refl, refl)

symbol-word-kind : (b : Bool) → (word_kind (symbol_word b) ≡ 3) × (is_hooked (symbol_word b) ≡ b)
symbol-word-kind true = (refl, refl)
symbol-word-kind false = (refl, refl)

abbrev first_word : Stream → List ℕ
first_word (token (identifier n) p s) = n
first_word _ = []

keyword-first : (p : ℕ) (n : List ℕ) (w : List Requirement) (s e : Stream)
    → TakesTokens (keyword p n ∷ w) s e → first_word s ≡ n
keyword-first p n w (end x) e h = absurd h
keyword-first p n w (no_token_at x) e h = absurd h
keyword-first p n w (token t q s) e h = ap (λ (x : KoreToken). first_word (token x q s)) h.0

named-first : (n : List ℕ) (w : List Requirement) (s e : Stream)
    → TakesTokens (any (identifier n) ∷ w) s e → first_word s ≡ n
named-first n w (end x) e h = absurd h
named-first n w (no_token_at x) e h = absurd h
named-first n w (token t q s) e h = ap (λ (x : KoreToken). first_word (token x q s)) h.0

declaration-kind : (x : Declaration) (w : List Requirement) (s e : Stream)
    → TakesTokens (spell_declaration x w) s e → word_kind (first_word s) ≡ kind x
declaration-kind (import_declaration d) w s e h =
    ap word_kind (keyword-first d.at (codes "import")
    (any (identifier d.name) ∷ spell_attributes d.attributes w) s e h)
declaration-kind (sort_declaration d) w s e h =
    ap word_kind (keyword-first d.at (sort_word d.hooked)
    (any (identifier d.name) ∷ spell_names d.params (spell_attributes d.attributes w)) s e
    h) ∙ (sort-word-kind d.hooked).0
declaration-kind (symbol_declaration d) w s e h =
    ap word_kind (keyword-first d.at (symbol_word d.hooked) (any (identifier d.name)
    ∷ spell_names d.params
    (spell_signature d.args d.result (spell_attributes d.attributes w))) s e h)
    ∙ (symbol-word-kind d.hooked).0
declaration-kind (alias_declaration d) w s e h =
    ap word_kind (keyword-first d.at (codes "alias") (behind_alias d w) s e h.1)
declaration-kind (axiom_declaration d) w s e h =
    ap word_kind (keyword-first d.at (codes "axiom") (spell_statement d w) s e h)
declaration-kind (claim_declaration d) w s e h =
    ap word_kind (keyword-first d.at (codes "claim") (spell_statement d w) s e h)

kinds-same : (x y : Declaration) (v w : List Requirement) (s d e : Stream)
    → TakesTokens (spell_declaration x v) s d → TakesTokens (spell_declaration y w) s e
    → kind x ≡ kind y
kinds-same x y v w s d e h k = sym (declaration-kind x v s d h) ∙ declaration-kind y w s e k

import-one : (x y : ImportDeclaration) (v w : List Requirement) (s d e : Stream)
    → TakesTokens (spell_import x v) s d → TakesTokens (spell_import y w) s e → Agree x y v w d e
import-one x y v w s d e h k =
    let a =
    keyword-one x.at y.at (codes "import") (codes "import")
    (any (identifier x.name) ∷ spell_attributes x.attributes v)
    (any (identifier y.name) ∷ spell_attributes y.attributes w) s d e h k in
    let b =
    named-one x.name y.name (spell_attributes x.attributes v) (spell_attributes y.attributes w)
    a.to d e a.first a.second in
    let c = attributes-one x.attributes y.attributes v w b.to d e b.first b.second in
    record {
      same = λ i. record { at = (a.same i).0; name = b.same i; attributes = c.same i };
      to = c.to;
      first = c.first;
      second = c.second;
    }

sort-one : (x y : SortDeclaration) (v w : List Requirement) (s d e : Stream)
    → TakesTokens (spell_sort_declaration x v) s d → TakesTokens (spell_sort_declaration y w) s e
    → Agree x y v w d e
sort-one x y v w s d e h k =
    let v2 : List Requirement = spell_attributes x.attributes v in
    let w2 : List Requirement = spell_attributes y.attributes w in
    let v1 : List Requirement = spell_names x.params v2 in
    let w1 : List Requirement = spell_names y.params w2 in
    let a =
    keyword-one x.at y.at (sort_word x.hooked) (sort_word y.hooked)
    (any (identifier x.name) ∷ v1) (any (identifier y.name) ∷ w1) s d e h k in
    let hooked : x.hooked ≡ y.hooked =
    sym (sort-word-kind x.hooked).1 ∙ (λ i. is_hooked (a.same i).1)
    ∙ (sort-word-kind y.hooked).1 in
    let b = named-one x.name y.name v1 w1 a.to d e a.first a.second in
    let c = names-one x.params y.params v2 w2 b.to d e b.first b.second in
    let f = attributes-one x.attributes y.attributes v w c.to d e c.first c.second in
    record {
      same =
          λ i. record {
            at = (a.same i).0;
            hooked = hooked i;
            name = b.same i;
            params = c.same i;
            attributes = f.same i;
          };
      to = f.to;
      first = f.first;
      second = f.second;
    }

symbol-one : (x y : SymbolDeclaration) (v w : List Requirement) (s d e : Stream)
    → TakesTokens (spell_symbol_declaration x v) s d
    → TakesTokens (spell_symbol_declaration y w) s e → Agree x y v w d e
symbol-one x y v w s d e h k =
    let v3 : List Requirement = spell_attributes x.attributes v in
    let w3 : List Requirement = spell_attributes y.attributes w in
    let v2 : List Requirement = spell_signature x.args x.result v3 in
    let w2 : List Requirement = spell_signature y.args y.result w3 in
    let v1 : List Requirement = spell_names x.params v2 in
    let w1 : List Requirement = spell_names y.params w2 in
    let a =
    keyword-one x.at y.at (symbol_word x.hooked) (symbol_word y.hooked)
    (any (identifier x.name) ∷ v1) (any (identifier y.name) ∷ w1) s d e h k in
    let hooked : x.hooked ≡ y.hooked =
    sym (symbol-word-kind x.hooked).1 ∙ (λ i. is_hooked (a.same i).1)
    ∙ (symbol-word-kind y.hooked).1 in
    let b = named-one x.name y.name v1 w1 a.to d e a.first a.second in
    let c = names-one x.params y.params v2 w2 b.to d e b.first b.second in
    let f =
    signature-one x.args y.args x.result y.result v3 w3 c.to d e refl refl c.first c.second in
    let g = attributes-one x.attributes y.attributes v w f.to d e f.first f.second in record {
      same = λ i. record {
        at = (a.same i).0;
        hooked = hooked i;
        name = b.same i;
        params = c.same i;
        args = (f.same i).0;
        result = (f.same i).1;
        attributes = g.same i;
      };
      to = g.to;
      first = g.first;
      second = g.second;
    }

not-hooked : (b : Bool) → IsTrue (not b) → b ≡ false
not-hooked true h = let never : ⊥ = cc in absurd never
not-hooked false h = refl

alias-one : (x y : AliasDeclaration) (v w : List Requirement) (s d e : Stream)
    → TakesTokens (spell_alias x v) s d → TakesTokens (spell_alias y w) s e → Agree x y v w d e
alias-one x y v w s d e h k =
    let a =
    keyword-one x.at y.at (codes "alias") (codes "alias") (behind_alias x v) (behind_alias y w)
    s d e h.1 k.1 in
    let hooked : x.hooked ≡ y.hooked = not-hooked x.hooked h.0 ∙ sym (not-hooked y.hooked k.0) in
    let b = named-one x.name y.name (behind_name x v) (behind_name y w) a.to d e a.first a.second in
    let c =
    names-one x.params y.params (behind_params x v) (behind_params y w) b.to d e b.first
    b.second in
    let f =
    signature-one x.args y.args x.result y.result (behind_signature x v) (behind_signature y w)
    c.to d e refl refl c.first c.second in
    let g =
    named-one (codes "where") (codes "where") (any (identifier x.left_name) ∷ behind_left x v)
    (any (identifier y.left_name) ∷ behind_left y w) f.to d e f.first f.second in
    let j =
    named-one x.left_name y.left_name (behind_left x v) (behind_left y w) g.to d e g.first
    g.second in
    let l =
    any-one (mark 123) (mark 123) (listed (map spell_sort x.left_sorts) 125 (behind_sorts x v))
    (listed (map spell_sort y.left_sorts) 125 (behind_sorts y w)) j.to d e j.first
    j.second in
    let m =
    list-told spell_sort sort-plain 125 brace-closes x.left_sorts y.left_sorts
    (all-told spell_sort sort-told x.left_sorts) (behind_sorts x v) (behind_sorts y w) l.to
    d e l.first l.second in
    let n =
    any-one (mark 40) (mark 40) (listed (map (spell_pattern false) x.vars) 41 (behind_vars x v))
    (listed (map (spell_pattern false) y.vars) 41 (behind_vars y w)) m.to d e m.first
    m.second in
    let o =
    list-told (spell_pattern false) (plain-pattern false) 41 paren-closes x.vars y.vars
    (all-told (spell_pattern false) (pattern-told false) x.vars) (behind_vars x v)
    (behind_vars y w) n.to d e n.first n.second in
    let p =
    any-one assign assign (spell_pattern false x.body (spell_attributes x.attributes v))
    (spell_pattern false y.body (spell_attributes y.attributes w)) o.to d e o.first
    o.second in
    let q =
    pattern-told false x.body y.body (spell_attributes x.attributes v)
    (spell_attributes y.attributes w) p.to d e refl refl p.first p.second in
    let r = attributes-one x.attributes y.attributes v w q.to d e q.first q.second in record {
      same = λ i. record {
        at = (a.same i).0;
        hooked = hooked i;
        name = b.same i;
        params = c.same i;
        args = (f.same i).0;
        result = (f.same i).1;
        left_name = j.same i;
        left_sorts = m.same i;
        vars = o.same i;
        body = q.same i;
        attributes = r.same i;
      };
      to = r.to;
      first = r.first;
      second = r.second;
    }

statement-one : (x y : AxiomDeclaration) (n : List ℕ) (v w : List Requirement) (s d e : Stream)
    → TakesTokens (keyword x.at n ∷ spell_statement x v) s d
    → TakesTokens (keyword y.at n ∷ spell_statement y w) s e → Agree x y v w d e
statement-one x y n v w s d e h k =
    let v2 : List Requirement = spell_attributes x.attributes v in
    let w2 : List Requirement = spell_attributes y.attributes w in
    let v1 : List Requirement = spell_pattern false x.pattern v2 in
    let w1 : List Requirement = spell_pattern false y.pattern w2 in
    let a =
    keyword-one x.at y.at n n (spell_names x.params v1) (spell_names y.params w1) s d e h k in
    let b = names-one x.params y.params v1 w1 a.to d e a.first a.second in
    let c = pattern-told false x.pattern y.pattern v2 w2 b.to d e refl refl b.first b.second in
    let f = attributes-one x.attributes y.attributes v w c.to d e c.first c.second in
    record {
      same =
          λ i. record {
            at = (a.same i).0;
            params = b.same i;
            pattern = c.same i;
            attributes = f.same i;
          };
      to = f.to;
      first = f.first;
      second = f.second;
    }

under : {X Y : Type 0} (f : X → Y) (x y : X) (v w : List Requirement) (d e : Stream)
    → Agree x y v w d e → Agree (f x) (f y) v w d e
under f x y v w d e a = record { same = ap f a.same; to = a.to; first = a.first; second = a.second }

declaration-one : (x y : Declaration) (v w : List Requirement) (s d e : Stream)
    → TakesTokens (spell_declaration x v) s d → TakesTokens (spell_declaration y w) s e
    → Agree x y v w d e
declaration-one (import_declaration x) (import_declaration y) v w s d e h k =
    under import_declaration x y v w d e (import-one x y v w s d e h k)
declaration-one (sort_declaration x) (sort_declaration y) v w s d e h k =
    under sort_declaration x y v w d e (sort-one x y v w s d e h k)
declaration-one (symbol_declaration x) (symbol_declaration y) v w s d e h k =
    under symbol_declaration x y v w d e (symbol-one x y v w s d e h k)
declaration-one (alias_declaration x) (alias_declaration y) v w s d e h k =
    under alias_declaration x y v w d e (alias-one x y v w s d e h k)
declaration-one (axiom_declaration x) (axiom_declaration y) v w s d e h k =
    under axiom_declaration x y v w d e (statement-one x y (codes "axiom") v w s d e h k)
declaration-one (claim_declaration x) (claim_declaration y) v w s d e h k =
    under claim_declaration x y v w d e (statement-one x y (codes "claim") v w s d e h k)
declaration-one (import_declaration x) y v w s d e h k =
    absurd (omega (arith, kinds-same (import_declaration x) y v w s d e h k))
declaration-one (sort_declaration x) y v w s d e h k =
    absurd (omega (arith, kinds-same (sort_declaration x) y v w s d e h k))
declaration-one (symbol_declaration x) y v w s d e h k =
    absurd (omega (arith, kinds-same (symbol_declaration x) y v w s d e h k))
declaration-one (alias_declaration x) y v w s d e h k =
    absurd (omega (arith, kinds-same (alias_declaration x) y v w s d e h k))
declaration-one (axiom_declaration x) y v w s d e h k =
    absurd (omega (arith, kinds-same (axiom_declaration x) y v w s d e h k))
declaration-one (claim_declaration x) y v w s d e h k =
    absurd (omega (arith, kinds-same (claim_declaration x) y v w s d e h k))

-- ---- modules and definitions

body-one : (xs ys : List Declaration) (ps qs : List PatternTree) (v w : List Requirement)
    (s d e : Stream) → TakesTokens (spell_body xs ps v) s d
    → TakesTokens (spell_body ys qs w) s e
    → Agree {T = List Declaration × List PatternTree} (xs, ps) (ys, qs) v w d e
body-one [] [] ps qs v w s d e h k =
    let a =
    named-one (codes "endmodule") (codes "endmodule") (spell_attributes ps v)
    (spell_attributes qs w) s d e h k in
    let b = attributes-one ps qs v w a.to d e a.first a.second in
    record { same = λ i. ([], b.same i); to = b.to; first = b.first; second = b.second }
body-one [] (y ∷ ys) ps qs v w s d e h k =
    absurd (kind-some y (sym (declaration-kind y (spell_body ys qs w) s e k)
    ∙ ap word_kind (named-first (codes "endmodule") (spell_attributes ps v) s d h)))
body-one (x ∷ xs) [] ps qs v w s d e h k =
    absurd (kind-some x (sym (declaration-kind x (spell_body xs ps v) s d h)
    ∙ ap word_kind (named-first (codes "endmodule") (spell_attributes qs w) s e k)))
body-one (x ∷ xs) (y ∷ ys) ps qs v w s d e h k =
    let a = declaration-one x y (spell_body xs ps v) (spell_body ys qs w) s d e h k in
    let b = body-one xs ys ps qs v w a.to d e a.first a.second in
    record {
      same = λ i. (a.same i ∷ (b.same i).0, (b.same i).1);
      to = b.to;
      first = b.first;
      second = b.second;
    }

module-one : (m n : ModuleTree) (v w : List Requirement) (s d e : Stream)
    → TakesTokens (spell_module m v) s d → TakesTokens (spell_module n w) s e → Agree m n v w d e
module-one m n v w s d e h k =
    let v1 : List Requirement = spell_body m.declarations m.attributes v in
    let w1 : List Requirement = spell_body n.declarations n.attributes w in
    let a =
    keyword-one m.at n.at (codes "module") (codes "module") (any (identifier m.name) ∷ v1)
    (any (identifier n.name) ∷ w1) s d e h k in
    let b = named-one m.name n.name v1 w1 a.to d e a.first a.second in
    let c =
    body-one m.declarations n.declarations m.attributes n.attributes v w b.to d e b.first
    b.second in
    record {
      same =
          λ i. record {
            at = (a.same i).0;
            name = b.same i;
            declarations = (c.same i).0;
            attributes = (c.same i).1;
          };
      to = c.to;
      first = c.first;
      second = c.second;
    }

at-end : (p : ℕ) (n : List ℕ) (w : List Requirement) (s e : Stream) (d : ℕ) → s ≡ end d
    → TakesTokens (keyword p n ∷ w) s e → ⊥
at-end p n w s e d is h = subst (λ (x : Stream). TakesTokens (keyword p n ∷ w) x e) is h

modules-one : (ms ns : List ModuleTree) (s : Stream) (d e : ℕ)
    → TakesTokens (in_order (map spell_module ms) []) s (end d)
    → TakesTokens (in_order (map spell_module ns) []) s (end e) → ms ≡ ns
modules-one [] [] s d e h k = refl
modules-one [] (n ∷ ns) s d e h k =
    absurd (at-end n.at (codes "module") (any (identifier n.name)
    ∷ spell_body n.declarations n.attributes (in_order (map spell_module ns) [])) s (end e)
    d h k)
modules-one (m ∷ ms) [] s d e h k =
    absurd (at-end m.at (codes "module") (any (identifier m.name)
    ∷ spell_body m.declarations m.attributes (in_order (map spell_module ms) [])) s (end d)
    e k h)
modules-one (m ∷ ms) (n ∷ ns) s d e h k =
    let a =
    module-one m n (in_order (map spell_module ms) []) (in_order (map spell_module ns) []) s
    (end d) (end e) h k in
    both-same m n ms ns a.same (modules-one ms ns a.to d e a.first a.second)

pub definition_is_one : (bytes : List ℕ) (x y : DefinitionTree) → ReadsDefinition bytes x
    → ReadsDefinition bytes y → x ≡ y
definition_is_one bytes x y h k =
    let d : ℕ = h.1.0 in
    let e : ℕ = k.1.0 in
    let a =
    attributes-one x.attributes y.attributes (in_order (map spell_module x.modules) [])
    (in_order (map spell_module y.modules) []) (token_stream bytes) (end d) (end e) h.1.1.1
    k.1.1.1 in
    let modules = modules-one x.modules y.modules a.to d e a.first a.second in
    λ i. record { attributes = a.same i; modules = modules i }

pub pattern_is_one : (bytes : List ℕ) (p q : PatternTree) → ReadsPattern bytes p
    → ReadsPattern bytes q → p ≡ q
pattern_is_one bytes p q h k =
    (pattern-told false p q [] [] (token_stream bytes) (end h.1.0) (end k.1.0) tt tt h.1.1
    k.1.1).same
