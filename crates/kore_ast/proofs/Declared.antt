-- What is read at a declaration, by its keyword.
use Rattle.std.proofs.Common.{◌≡◌, ℕ, Bool, true, false, not, IsTrue, List, [], ◌∷◌, map, Some}
use Rattle.std.proofs.Common.{refl, ap, sym, ◌∙◌, subst}
use Rattle.std.specs.Prelude.{codes}
use Rattle.kore_text.specs.TokenStream.{KoreToken, identifier, mark, assign, Stream, end}
use Rattle.kore_text.specs.Trees.{SortTree, PatternTree, ImportDeclaration, SortDeclaration}
use Rattle.kore_text.specs.Trees.{SymbolDeclaration, AliasDeclaration, AxiomDeclaration, ModuleTree}
use Rattle.kore_text.specs.Trees.{DefinitionTree, element_variable, set_variable, string}
use Rattle.kore_text.specs.Trees.{symbol_applied, connected, binder_applied, value_written, folded}
use Rattle.kore_text.specs.Trees.{Declaration, import_declaration, sort_declaration}
use Rattle.kore_text.specs.Trees.{symbol_declaration, alias_declaration, axiom_declaration}
use Rattle.kore_text.specs.Trees.{claim_declaration}
use Rattle.kore_text.specs.Grammar.{Requirement, placed, any, listed, in_order, sort_word}
use Rattle.kore_text.specs.Grammar.{symbol_word, spell_name, spell_names, spell_sort, spell_pattern}
use Rattle.kore_text.specs.Grammar.{spell_attributes, spell_signature, spell_declaration}
use Rattle.kore_text.specs.Grammar.{spell_body, spell_module, spell_definition, is_some_module}
use Rattle.kore_text.specs.Apart.{Apart}
use Rattle.kore_ast.specs.declared.reader.Keyword.{Keyword}
use Rattle.kore_ast.specs.declared.reader.Keyword.TheVariants as key
use Rattle.kore_ast.specs.Keywords.{keyword_at}
use Rattle.kore_ast.specs.Streams.{after, byte_of_next, seen, is_done, is_over, name_of, keyword_of}
use Rattle.kore_ast.specs.Streams.{is_claimed, is_declared}
use Rattle.kore_ast.specs.Reading.{Has, Reads, spell_list, spell_signature_pair, spell_stated}
use Rattle.kore_ast.specs.Reading.{spell_body as spell_declared}
use Rattle.kore_ast.proofs.Steps.{any-step, placed-step, given-step, end-step}
use Rattle.kore_ast.proofs.Lists.{Begins}
use Rattle.kore_ast.proofs.Sequences.{Follows, No, follows-end}

-- a token, and the stream after it
pub any-to : (t : KoreToken) (k : List Requirement) (s s1 e : Stream) → s1 ≡ after s
    → Has (any t ∷ k) s e → (seen s ≡ Some t) × Has k s1 e
any-to t k s s1 e p h = let x = any-step t k s e h in (x.0, subst (λ u. Has k u e) (sym p) x.1)

pub placed-to : (p : ℕ) (t : KoreToken) (k : List Requirement) (s s1 e : Stream) → s1 ≡ after s
    → Has (placed p t ∷ k) s e → (seen s ≡ Some t) × (p ≡ byte_of_next s) × Has k s1 e
placed-to p t k s s1 e q h =
    let x = placed-step p t k s e h in (x.0, x.1, subst (λ u. Has k u e) (sym q) x.2)

-- the name that was read is the name of the identifier
pub named : (m n : List ℕ) (s : Stream) → n ≡ name_of (seen s) → seen s ≡ Some (identifier m)
    → m ≡ n
named m n s e h = sym (ap name_of h) ∙ sym e

pub name-read : (n : List ℕ) (s r : Stream) → n ≡ name_of (seen s) → r ≡ after s
    → Reads spell_name n s r
name-read n s r e p = record {
  exact = λ t k e' a h. let x = any-to (identifier t) k s r e' p h in (named t n s e x.0, x.1);
}

pub begins-name : Begins spell_name 125
begins-name = record { open_at = λ t k s e h. ap (is_over 125) (any-step (identifier t) k s e h).0 }

pub same-names : (ns : List (List ℕ)) → map (λ (n : List ℕ). n) ns ≡ ns
same-names [] = refl
same-names (n ∷ ns) = ap (λ ms. n ∷ ms) (same-names ns)

pub names-read : (ns : List (List ℕ)) (s s1 r : Stream) → s1 ≡ after s
    → Reads (spell_list spell_name 125) (map (λ (n : List ℕ). n) ns) s1 r → Reads spell_names ns s r
names-read ns s s1 r p i = record {
  exact = λ t k e a h.
      let x = any-to (mark 123) (listed (map spell_name t) 125 k) s s1 e p h in
      let y = i.exact t k e a x.1 in (y.0 ∙ same-names ns, y.1);
}

pub attributes_read : (ps : List PatternTree) (s s1 r : Stream) → s1 ≡ after s
    → ((b : Bool) → Reads (spell_list (spell_pattern b) 93) ps s1 r) → Reads spell_attributes ps s r
attributes_read ps s s1 r p i = record {
  exact = λ t k e a h.
      let x = any-to (mark 91) (listed (map (spell_pattern true) t) 93 k) s s1 e p h in
      (i true).exact t k e a x.1;
}

pub signature-read : (xs : List SortTree) (y : SortTree) (s s1 s2 s3 r : Stream) → s1 ≡ after s
    → Reads (spell_list spell_sort 41) xs s1 s2 → s3 ≡ after s2 → Reads spell_sort y s3 r
    → Reads spell_signature_pair (xs, y) s r
signature-read xs y s s1 s2 s3 r p i q j = record {
  exact = λ t k e a h.
      let u =
      any-to (mark 40) (listed (map spell_sort t.0) 41 (any (mark 58) ∷ spell_sort t.1 k)) s s1
      e p h in
      let v = i.exact t.0 (any (mark 58) ∷ spell_sort t.1 k) e refl u.1 in
      let w = any-to (mark 58) (spell_sort t.1 k) s2 s3 e q v.1 in
      let z = j.exact t.1 k e a w.1 in (
        ap (λ (l : List SortTree). let x : List SortTree × SortTree = (l, t.1) in x) v.0
            ∙ ap (λ (l : SortTree). let x : List SortTree × SortTree = (xs, l) in x) z.0,
        z.1,
      );
}

-- the keyword of a declaration
abbrev pub declared : Declaration → Keyword
declared (import_declaration d) = key.Import
declared (sort_declaration d) = key.Sort d.hooked
declared (symbol_declaration d) = key.Symbol d.hooked
declared (alias_declaration d) = key.Alias
declared (axiom_declaration d) = key.Axiom
declared (claim_declaration d) = key.Claim

sort-key : (b : Bool) → keyword_at (sort_word b) ≡ key.Sort b
sort-key true = refl
sort-key false = refl

symbol-key : (b : Bool) → keyword_at (symbol_word b) ≡ key.Symbol b
symbol-key true = refl
symbol-key false = refl

pub begins-word : (d : Declaration) (k : List Requirement) (s e : Stream)
    → Has (spell_declaration d k) s e → keyword_of (seen s) ≡ declared d
begins-word (import_declaration d) k s e h =
    ap keyword_of (placed-step d.at (identifier (codes "import")) _ s e h).0
begins-word (sort_declaration d) k s e h =
    ap keyword_of (placed-step d.at (identifier (sort_word d.hooked)) _ s e h).0 ∙ sort-key d.hooked
begins-word (symbol_declaration d) k s e h =
    ap keyword_of (placed-step d.at (identifier (symbol_word d.hooked)) _ s e h).0
    ∙ symbol-key d.hooked
begins-word (alias_declaration d) k s e h =
    ap keyword_of (placed-step d.at (identifier (codes "alias")) _ s e
    (given-step (not d.hooked) _ s e h).1).0
begins-word (axiom_declaration d) k s e h =
    ap keyword_of (placed-step d.at (identifier (codes "axiom")) _ s e h).0
begins-word (claim_declaration d) k s e h =
    ap keyword_of (placed-step d.at (identifier (codes "claim")) _ s e h).0

-- the kind of a declaration follows from its keyword

by-import : (t : Declaration) → declared t ≡ key.Import
    → (d : ImportDeclaration) × (t ≡ import_declaration d)
by-import (import_declaration d) e = (d, refl)
by-import (sort_declaration d) e = absurd (let z : ⊥ = cc in z)
by-import (symbol_declaration d) e = absurd (let z : ⊥ = cc in z)
by-import (alias_declaration d) e = absurd (let z : ⊥ = cc in z)
by-import (axiom_declaration d) e = absurd (let z : ⊥ = cc in z)
by-import (claim_declaration d) e = absurd (let z : ⊥ = cc in z)

by-sort : (t : Declaration) (b : Bool) → declared t ≡ key.Sort b
    → (d : SortDeclaration) × (t ≡ sort_declaration d) × (d.hooked ≡ b)
by-sort (import_declaration d) b e = absurd (let z : ⊥ = cc in z)
by-sort (sort_declaration d) b e = let f : d.hooked ≡ b = cc in (d, refl, f)
by-sort (symbol_declaration d) b e = absurd (let z : ⊥ = cc in z)
by-sort (alias_declaration d) b e = absurd (let z : ⊥ = cc in z)
by-sort (axiom_declaration d) b e = absurd (let z : ⊥ = cc in z)
by-sort (claim_declaration d) b e = absurd (let z : ⊥ = cc in z)

by-symbol : (t : Declaration) (b : Bool) → declared t ≡ key.Symbol b
    → (d : SymbolDeclaration) × (t ≡ symbol_declaration d) × (d.hooked ≡ b)
by-symbol (import_declaration d) b e = absurd (let z : ⊥ = cc in z)
by-symbol (sort_declaration d) b e = absurd (let z : ⊥ = cc in z)
by-symbol (symbol_declaration d) b e = let f : d.hooked ≡ b = cc in (d, refl, f)
by-symbol (alias_declaration d) b e = absurd (let z : ⊥ = cc in z)
by-symbol (axiom_declaration d) b e = absurd (let z : ⊥ = cc in z)
by-symbol (claim_declaration d) b e = absurd (let z : ⊥ = cc in z)

by-alias : (t : Declaration) → declared t ≡ key.Alias
    → (d : AliasDeclaration) × (t ≡ alias_declaration d)
by-alias (import_declaration d) e = absurd (let z : ⊥ = cc in z)
by-alias (sort_declaration d) e = absurd (let z : ⊥ = cc in z)
by-alias (symbol_declaration d) e = absurd (let z : ⊥ = cc in z)
by-alias (alias_declaration d) e = (d, refl)
by-alias (axiom_declaration d) e = absurd (let z : ⊥ = cc in z)
by-alias (claim_declaration d) e = absurd (let z : ⊥ = cc in z)

by-axiom : (t : Declaration) → declared t ≡ key.Axiom
    → (d : AxiomDeclaration) × (t ≡ axiom_declaration d)
by-axiom (import_declaration d) e = absurd (let z : ⊥ = cc in z)
by-axiom (sort_declaration d) e = absurd (let z : ⊥ = cc in z)
by-axiom (symbol_declaration d) e = absurd (let z : ⊥ = cc in z)
by-axiom (alias_declaration d) e = absurd (let z : ⊥ = cc in z)
by-axiom (axiom_declaration d) e = (d, refl)
by-axiom (claim_declaration d) e = absurd (let z : ⊥ = cc in z)

by-claim : (t : Declaration) → is_claimed (declared t) ≡ true
    → (d : AxiomDeclaration) × (t ≡ claim_declaration d)
by-claim (import_declaration d) e = absurd (let y : false ≡ true = e in let z : ⊥ = cc in z)
by-claim (sort_declaration d) e = absurd (let y : false ≡ true = e in let z : ⊥ = cc in z)
by-claim (symbol_declaration d) e = absurd (let y : false ≡ true = e in let z : ⊥ = cc in z)
by-claim (alias_declaration d) e = absurd (let y : false ≡ true = e in let z : ⊥ = cc in z)
by-claim (axiom_declaration d) e = absurd (let y : false ≡ true = e in let z : ⊥ = cc in z)
by-claim (claim_declaration d) e = (d, refl)

form : (t u : Declaration) (k : List Requirement) (s e : Stream) → t ≡ u
    → Has (spell_declaration t k) s e → Has (spell_declaration u k) s e
form t u k s e f h = subst (λ v. Has (spell_declaration v k) s e) f h

pub import-read : (at : ℕ) (n : List ℕ) (ps : List PatternTree) (s s1 s2 r : Stream)
    → keyword_of (seen s) ≡ key.Import → at ≡ byte_of_next s → s1 ≡ after s → n ≡ name_of (seen s1)
    → s2 ≡ after s1 → Reads spell_attributes ps s2 r
    → Reads spell_declaration (import_declaration (record { at = at; name = n; attributes = ps })) s
    r
import-read at n ps s s1 s2 r hd e1 p1 e2 p2 i = record {
  exact = λ t k e a h.
      let f = by-import t (sym (begins-word t k s e h) ∙ hd) in
      let d : ImportDeclaration = f.0 in
      let u =
      placed-to d.at (identifier (codes "import"))
      (any (identifier d.name) ∷ spell_attributes d.attributes k) s s1 e p1
      (form t (import_declaration d) k s e f.1 h) in
      let v = any-to (identifier d.name) (spell_attributes d.attributes k) s1 s2 e p2 u.2 in
      let w = i.exact d.attributes k e a v.1 in (
        f.1
            ∙ ap (λ x. import_declaration
            (record { at = x; name = d.name; attributes = d.attributes })) (u.1 ∙ sym e1)
            ∙ ap (λ x. import_declaration (record { at = at; name = x; attributes = d.attributes }))
            (named d.name n s1 e2 v.0)
            ∙ ap (λ x. import_declaration (record { at = at; name = n; attributes = x })) w.0,
        w.1,
      );
}

pub sort-read : (b : Bool) (at : ℕ) (n : List ℕ) (ns : List (List ℕ)) (ps : List PatternTree)
    (s s1 s2 s3 r : Stream) → keyword_of (seen s) ≡ key.Sort b → at ≡ byte_of_next s
    → s1 ≡ after s → n ≡ name_of (seen s1) → s2 ≡ after s1 → Reads spell_names ns s2 s3
    → Reads spell_attributes ps s3 r
    → Reads spell_declaration
    (sort_declaration (record { at = at; hooked = b; name = n; params = ns; attributes = ps }))
    s r
sort-read b at n ns ps s s1 s2 s3 r hd e1 p1 e2 p2 j i = record {
  exact = λ t k e a h.
      let f = by-sort t b (sym (begins-word t k s e h) ∙ hd) in
      let d : SortDeclaration = f.0 in
      let k1 : List Requirement = spell_attributes d.attributes k in
      let k2 : List Requirement = spell_names d.params k1 in
      let u =
      placed-to d.at (identifier (sort_word d.hooked)) (any (identifier d.name) ∷ k2) s s1 e p1
      (form t (sort_declaration d) k s e f.1 h) in
      let v = any-to (identifier d.name) k2 s1 s2 e p2 u.2 in
      let y = j.exact d.params k1 e refl v.1 in
      let w = i.exact d.attributes k e a y.1 in (
        f.1
            ∙ ap (λ x. sort_declaration (record {
              at = x;
              hooked = d.hooked;
              name = d.name;
              params = d.params;
              attributes = d.attributes;
            })) (u.1 ∙ sym e1)
            ∙ ap (λ x. sort_declaration (record {
              at = at;
              hooked = x;
              name = d.name;
              params = d.params;
              attributes = d.attributes;
            })) f.2
            ∙ ap (λ x. sort_declaration (record {
              at = at;
              hooked = b;
              name = x;
              params = d.params;
              attributes = d.attributes;
            })) (named d.name n s1 e2 v.0)
            ∙ ap (λ x. sort_declaration (record {
              at = at;
              hooked = b;
              name = n;
              params = x;
              attributes = d.attributes;
            })) y.0
            ∙ ap (λ x. sort_declaration
            (record { at = at; hooked = b; name = n; params = ns; attributes = x })) w.0,
        w.1,
      );
}

pub symbol-read : (b : Bool) (at : ℕ) (n : List ℕ) (ns : List (List ℕ)) (xs : List SortTree)
    (z : SortTree) (ps : List PatternTree) (s s1 s2 s3 s4 r : Stream)
    → keyword_of (seen s) ≡ key.Symbol b → at ≡ byte_of_next s → s1 ≡ after s
    → n ≡ name_of (seen s1) → s2 ≡ after s1 → Reads spell_names ns s2 s3
    → Reads spell_signature_pair (xs, z) s3 s4 → Reads spell_attributes ps s4 r
    → Reads spell_declaration (symbol_declaration (record {
      at = at;
      hooked = b;
      name = n;
      params = ns;
      args = xs;
      result = z;
      attributes = ps;
    })) s r
symbol-read b at n ns xs z ps s s1 s2 s3 s4 r hd e1 p1 e2 p2 j l i = record {
  exact = λ t k e a h.
      let f = by-symbol t b (sym (begins-word t k s e h) ∙ hd) in
      let d : SymbolDeclaration = f.0 in
      let k1 : List Requirement = spell_attributes d.attributes k in
      let k2 : List Requirement = spell_signature d.args d.result k1 in
      let k3 : List Requirement = spell_names d.params k2 in
      let u =
      placed-to d.at (identifier (symbol_word d.hooked)) (any (identifier d.name) ∷ k3) s s1 e
      p1 (form t (symbol_declaration d) k s e f.1 h) in
      let v = any-to (identifier d.name) k3 s1 s2 e p2 u.2 in
      let y = j.exact d.params k2 e refl v.1 in
      let g : List SortTree × SortTree = (d.args, d.result) in
      let c = l.exact g k1 e refl y.1 in
      let w = i.exact d.attributes k e a c.1 in (
        f.1
            ∙ ap (λ x. symbol_declaration (record {
              at = x;
              hooked = d.hooked;
              name = d.name;
              params = d.params;
              args = d.args;
              result = d.result;
              attributes = d.attributes;
            })) (u.1 ∙ sym e1)
            ∙ ap (λ x. symbol_declaration (record {
              at = at;
              hooked = x;
              name = d.name;
              params = d.params;
              args = d.args;
              result = d.result;
              attributes = d.attributes;
            })) f.2
            ∙ ap (λ x. symbol_declaration (record {
              at = at;
              hooked = b;
              name = x;
              params = d.params;
              args = d.args;
              result = d.result;
              attributes = d.attributes;
            })) (named d.name n s1 e2 v.0)
            ∙ ap (λ x. symbol_declaration (record {
              at = at;
              hooked = b;
              name = n;
              params = x;
              args = d.args;
              result = d.result;
              attributes = d.attributes;
            })) y.0
            ∙ ap (λ (x : List SortTree × SortTree). symbol_declaration (record {
              at = at;
              hooked = b;
              name = n;
              params = ns;
              args = x.0;
              result = x.1;
              attributes = d.attributes;
            })) c.0
            ∙ ap (λ x. symbol_declaration (record {
              at = at;
              hooked = b;
              name = n;
              params = ns;
              args = xs;
              result = z;
              attributes = x;
            })) w.0,
        w.1,
      );
}

-- no pattern begins with an opening brace
pub apart-pattern : (b : Bool) (p : PatternTree) (k : List Requirement) (e : Stream)
    → Apart (spell_pattern b p k) e
apart-pattern b (element_variable p n s) k e = refl
apart-pattern b (set_variable p n s) k e = refl
apart-pattern b (string p t) k e = refl
apart-pattern b (symbol_applied p n ss ps) k e = refl
apart-pattern b (connected p o ss ps) k e = refl
apart-pattern b (binder_applied p o ss x q) k e = refl
apart-pattern b (value_written p s t q) k e = refl
apart-pattern b (folded p l q) k e = refl

pub stated-read : (word : List ℕ) (at : ℕ) (ns : List (List ℕ)) (q : PatternTree)
    (ps : List PatternTree) (s s1 s2 s3 r : Stream) → at ≡ byte_of_next s → s1 ≡ after s
    → Reads spell_names ns s1 s2 → ((b : Bool) → Reads (spell_pattern b) q s2 s3)
    → Reads spell_attributes ps s3 r
    → Reads (spell_stated word) (record { at = at; params = ns; pattern = q; attributes = ps }) s r
stated-read word at ns q ps s s1 s2 s3 r e1 p1 j l i = record {
  exact = λ d k e a h.
      let k1 : List Requirement = spell_attributes d.attributes k in
      let k2 : List Requirement = spell_pattern false d.pattern k1 in
      let k3 : List Requirement = spell_names d.params k2 in
      let u = placed-to d.at (identifier word) k3 s s1 e p1 h in
      let y = j.exact d.params k2 e (apart-pattern false d.pattern k1 e) u.2 in
      let c = (l false).exact d.pattern k1 e refl y.1 in
      let w = i.exact d.attributes k e a c.1 in (
        ap (λ x. let v : AxiomDeclaration =
            record {
              at = x;
              params = d.params;
              pattern = d.pattern;
              attributes = d.attributes;
            } in
            v) (u.1 ∙ sym e1)
            ∙ ap (λ x. let v : AxiomDeclaration =
            record {
              at = at;
              params = x;
              pattern = d.pattern;
              attributes = d.attributes;
            } in
            v) y.0
            ∙ ap (λ x. let v : AxiomDeclaration =
            record { at = at; params = ns; pattern = x; attributes = d.attributes } in
            v) c.0
            ∙ ap (λ x. let v : AxiomDeclaration =
            record { at = at; params = ns; pattern = q; attributes = x } in
            v) w.0,
        w.1,
      );
}

pub axiom_read : (x : AxiomDeclaration) (s r : Stream) → keyword_of (seen s) ≡ key.Axiom
    → ((word : List ℕ) → Reads (spell_stated word) x s r)
    → Reads spell_declaration (axiom_declaration x) s r
axiom_read x s r hd i = record {
  exact = λ t k e a h.
      let f = by-axiom t (sym (begins-word t k s e h) ∙ hd) in
      let d : AxiomDeclaration = f.0 in
      let w = (i (codes "axiom")).exact d k e a (form t (axiom_declaration d) k s e f.1 h) in
      (f.1 ∙ ap axiom_declaration w.0, w.1);
}

pub claim_read : (x : AxiomDeclaration) (s r : Stream) → is_claimed (keyword_of (seen s)) ≡ true
    → ((word : List ℕ) → Reads (spell_stated word) x s r)
    → Reads spell_declaration (claim_declaration x) s r
claim_read x s r hd i = record {
  exact = λ t k e a h.
      let f = by-claim t (ap is_claimed (sym (begins-word t k s e h)) ∙ hd) in
      let d : AxiomDeclaration = f.0 in
      let w = (i (codes "claim")).exact d k e a (form t (claim_declaration d) k s e f.1 h) in
      (f.1 ∙ ap claim_declaration w.0, w.1);
}

pub not-so : (b : Bool) → IsTrue (not b) → b ≡ false
not-so true h = let z : false ≡ true = h in absurd (let y : ⊥ = cc in y)
not-so false h = refl

pub alias-read : (at : ℕ) (n : List ℕ) (ns : List (List ℕ)) (xs : List SortTree) (z : SortTree)
    (ln : List ℕ) (ls : List SortTree) (vs : List PatternTree) (q : PatternTree)
    (ps : List PatternTree)
    (s s1 s2 s3 s4 s5 s6 s7 s8 s9 s10 s11 s12 r : Stream)
    → keyword_of (seen s) ≡ key.Alias → at ≡ byte_of_next s → s1 ≡ after s → n ≡ name_of (seen s1)
    → s2 ≡ after s1
    → Reads spell_names ns s2 s3 → Reads spell_signature_pair (xs, z) s3 s4 → s5 ≡ after s4
    → ln ≡ name_of (seen s5) → s6 ≡ after s5 → s7 ≡ after s6
    → Reads (spell_list spell_sort 125) ls s7 s8 → s9 ≡ after s8
    → ((b : Bool) → Reads (spell_list (spell_pattern b) 41) vs s9 s10) → s11 ≡ after s10
    → ((b : Bool) → Reads (spell_pattern b) q s11 s12) → Reads spell_attributes ps s12 r
    → Reads spell_declaration (alias_declaration (record {
      at = at;
      hooked = false;
      name = n;
      params = ns;
      args = xs;
      result = z;
      left_name = ln;
      left_sorts = ls;
      vars = vs;
      body = q;
      attributes = ps;
    })) s r
alias-read at n ns xs z ln ls vs q ps s s1 s2 s3 s4 s5 s6 s7 s8 s9 s10 s11 s12 r hd e1 p1 e2 p2 j l
    p3 e3 p4 p5 j2 p6 j3 p7 j4 i = record {
      exact = λ t k e a h.
          let f = by-alias t (sym (begins-word t k s e h) ∙ hd) in
          let d : AliasDeclaration = f.0 in
          let k1 : List Requirement = spell_attributes d.attributes k in
          let k2 : List Requirement = spell_pattern false d.body k1 in
          let k3 : List Requirement =
          listed (map (spell_pattern false) d.vars) 41 (any assign ∷ k2) in
          let k4 : List Requirement =
          listed (map spell_sort d.left_sorts) 125 (any (mark 40) ∷ k3) in
          let k5 : List Requirement =
          any (identifier (codes "where")) ∷ any (identifier d.left_name) ∷ any (mark 123) ∷ k4 in
          let k6 : List Requirement = spell_signature d.args d.result k5 in
          let k7 : List Requirement = spell_names d.params k6 in
          let g0 =
          given-step (not d.hooked)
          (placed d.at (identifier (codes "alias")) ∷ any (identifier d.name) ∷ k7) s e
          (form t (alias_declaration d) k s e f.1 h) in
          let hk : d.hooked ≡ false = not-so d.hooked g0.0 in
          let u =
          placed-to d.at (identifier (codes "alias")) (any (identifier d.name) ∷ k7) s s1 e p1
          g0.1 in
          let v = any-to (identifier d.name) k7 s1 s2 e p2 u.2 in
          let y = j.exact d.params k6 e refl v.1 in
          let g : List SortTree × SortTree = (d.args, d.result) in
          let c = l.exact g k5 e refl y.1 in
          let v1 =
          any-to (identifier (codes "where")) (any (identifier d.left_name) ∷ any (mark 123) ∷ k4)
          s4 s5 e p3 c.1 in
          let v2 = any-to (identifier d.left_name) (any (mark 123) ∷ k4) s5 s6 e p4 v1.1 in
          let v3 = any-to (mark 123) k4 s6 s7 e p5 v2.1 in
          let c2 = j2.exact d.left_sorts (any (mark 40) ∷ k3) e refl v3.1 in
          let v4 = any-to (mark 40) k3 s8 s9 e p6 c2.1 in
          let c3 = (j3 false).exact d.vars (any assign ∷ k2) e refl v4.1 in
          let v5 = any-to assign k2 s10 s11 e p7 c3.1 in
          let c4 = (j4 false).exact d.body k1 e refl v5.1 in
          let w = i.exact d.attributes k e a c4.1 in (
            f.1
                ∙ ap (λ x. alias_declaration (record {
                  at = x;
                  hooked = d.hooked;
                  name = d.name;
                  params = d.params;
                  args = d.args;
                  result = d.result;
                  left_name = d.left_name;
                  left_sorts = d.left_sorts;
                  vars = d.vars;
                  body = d.body;
                  attributes = d.attributes;
                })) (u.1 ∙ sym e1)
                ∙ ap (λ x. alias_declaration (record {
                  at = at;
                  hooked = x;
                  name = d.name;
                  params = d.params;
                  args = d.args;
                  result = d.result;
                  left_name = d.left_name;
                  left_sorts = d.left_sorts;
                  vars = d.vars;
                  body = d.body;
                  attributes = d.attributes;
                })) hk
                ∙ ap (λ x. alias_declaration (record {
                  at = at;
                  hooked = false;
                  name = x;
                  params = d.params;
                  args = d.args;
                  result = d.result;
                  left_name = d.left_name;
                  left_sorts = d.left_sorts;
                  vars = d.vars;
                  body = d.body;
                  attributes = d.attributes;
                })) (named d.name n s1 e2 v.0)
                ∙ ap (λ x. alias_declaration (record {
                  at = at;
                  hooked = false;
                  name = n;
                  params = x;
                  args = d.args;
                  result = d.result;
                  left_name = d.left_name;
                  left_sorts = d.left_sorts;
                  vars = d.vars;
                  body = d.body;
                  attributes = d.attributes;
                })) y.0
                ∙ ap (λ (x : List SortTree × SortTree). alias_declaration (record {
                  at = at;
                  hooked = false;
                  name = n;
                  params = ns;
                  args = x.0;
                  result = x.1;
                  left_name = d.left_name;
                  left_sorts = d.left_sorts;
                  vars = d.vars;
                  body = d.body;
                  attributes = d.attributes;
                })) c.0
                ∙ ap (λ x. alias_declaration (record {
                  at = at;
                  hooked = false;
                  name = n;
                  params = ns;
                  args = xs;
                  result = z;
                  left_name = x;
                  left_sorts = d.left_sorts;
                  vars = d.vars;
                  body = d.body;
                  attributes = d.attributes;
                })) (named d.left_name ln s5 e3 v2.0)
                ∙ ap (λ x. alias_declaration (record {
                  at = at;
                  hooked = false;
                  name = n;
                  params = ns;
                  args = xs;
                  result = z;
                  left_name = ln;
                  left_sorts = x;
                  vars = d.vars;
                  body = d.body;
                  attributes = d.attributes;
                })) c2.0
                ∙ ap (λ x. alias_declaration (record {
                  at = at;
                  hooked = false;
                  name = n;
                  params = ns;
                  args = xs;
                  result = z;
                  left_name = ln;
                  left_sorts = ls;
                  vars = x;
                  body = d.body;
                  attributes = d.attributes;
                })) c3.0
                ∙ ap (λ x. alias_declaration (record {
                  at = at;
                  hooked = false;
                  name = n;
                  params = ns;
                  args = xs;
                  result = z;
                  left_name = ln;
                  left_sorts = ls;
                  vars = vs;
                  body = x;
                  attributes = d.attributes;
                })) c4.0
                ∙ ap (λ x. alias_declaration (record {
                  at = at;
                  hooked = false;
                  name = n;
                  params = ns;
                  args = xs;
                  result = z;
                  left_name = ln;
                  left_sorts = ls;
                  vars = vs;
                  body = q;
                  attributes = x;
                })) w.0,
            w.1,
          );
    }

-- no declaration begins with an opening brace
pub apart-declarations : (us : List Declaration) (k : List Requirement) (e : Stream) → Apart k e
    → Apart (in_order (map spell_declaration us) k) e
apart-declarations [] k e a = a
apart-declarations (import_declaration d ∷ us) k e a = refl
apart-declarations (sort_declaration d ∷ us) k e a = refl
apart-declarations (symbol_declaration d ∷ us) k e a = refl
apart-declarations (alias_declaration d ∷ us) k e a = refl
apart-declarations (axiom_declaration d ∷ us) k e a = refl
apart-declarations (claim_declaration d ∷ us) k e a = refl

pub apart-modules : (us : List ModuleTree) (k : List Requirement) (e : Stream) → Apart k e
    → Apart (in_order (map spell_module us) k) e
apart-modules [] k e a = a
apart-modules (m ∷ us) k e a = refl

-- the requirements after the declarations of a module
abbrev pub ending : List Requirement → List Requirement
ending k = any (identifier (codes "endmodule")) ∷ k

contrary : (b : Bool) → b ≡ true → b ≡ false → ⊥
contrary b h e = let z : true ≡ false = sym h ∙ e in let y : ⊥ = cc in y

is-declared : (d : Declaration) → is_declared (declared d) ≡ true
is-declared (import_declaration d) = refl
is-declared (sort_declaration d) = refl
is-declared (symbol_declaration d) = refl
is-declared (alias_declaration d) = refl
is-declared (axiom_declaration d) = refl
is-declared (claim_declaration d) = refl

pub no-declaration : (s : Stream) → is_declared (keyword_of (seen s)) ≡ false
    → No spell_declaration s
no-declaration s n d k e h =
    contrary (is_declared (keyword_of (seen s)))
    (ap is_declared (begins-word d k s e h) ∙ is-declared d) n

pub not-ended : (s : Stream) (k : List Requirement) (e : Stream)
    → is_declared (keyword_of (seen s)) ≡ true → Has (ending k) s e → ⊥
not-ended s k e n h =
    contrary (is_declared (keyword_of (seen s))) n
    (ap (λ t. is_declared (keyword_of t)) (any-step (identifier (codes "endmodule")) k s e h).0)

pub body-read : (ds : List Declaration) (s mid r : Stream)
    → ((k : List Requirement) (e : Stream) → Follows spell_declaration ds (ending k) e s mid)
    → is_declared (keyword_of (seen mid)) ≡ false → r ≡ after mid → Reads spell_declared ds s r
body-read ds s mid r h n p = record {
  exact = λ t k e a g.
      let x =
      follows-end spell_declaration ds (ending k) e s mid (h k e) (no-declaration mid n) t g in
      (x.0, (any-to (identifier (codes "endmodule")) k mid r e p x.1).1);
}

pub module-read : (at : ℕ) (n : List ℕ) (ds : List Declaration) (ps : List PatternTree)
    (s s1 s2 s3 r : Stream) → at ≡ byte_of_next s → s1 ≡ after s → n ≡ name_of (seen s1)
    → s2 ≡ after s1 → Reads spell_declared ds s2 s3 → Reads spell_attributes ps s3 r
    → Reads spell_module (record { at = at; name = n; declarations = ds; attributes = ps }) s r
module-read at n ds ps s s1 s2 s3 r e1 p1 e2 p2 j i = record {
  exact = λ d k e a h.
      let k1 : List Requirement = spell_attributes d.attributes k in
      let k2 : List Requirement = spell_declared d.declarations k1 in
      let u =
      placed-to d.at (identifier (codes "module")) (any (identifier d.name) ∷ k2) s s1 e p1 h in
      let v = any-to (identifier d.name) k2 s1 s2 e p2 u.2 in
      let y = j.exact d.declarations k1 e refl v.1 in
      let w = i.exact d.attributes k e a y.1 in (
        ap (λ x. let v : ModuleTree =
            record {
              at = x;
              name = d.name;
              declarations = d.declarations;
              attributes = d.attributes;
            } in
            v) (u.1 ∙ sym e1)
            ∙ ap (λ x. let v : ModuleTree =
            record {
              at = at;
              name = x;
              declarations = d.declarations;
              attributes = d.attributes;
            } in
            v) (named d.name n s1 e2 v.0)
            ∙ ap (λ x. let v : ModuleTree =
            record { at = at; name = n; declarations = x; attributes = d.attributes } in
            v) y.0
            ∙ ap (λ x. let v : ModuleTree =
            record { at = at; name = n; declarations = ds; attributes = x } in
            v) w.0,
        w.1,
      );
}

pub no-module : (s : Stream) → is_done (seen s) ≡ true → No spell_module s
no-module s n m k e h =
    contrary (is_done (seen s)) n (ap is_done (placed-step m.at (identifier (codes "module"))
    (any (identifier m.name) ∷ spell_body m.declarations m.attributes k) s e h).0)

pub not-done : (s : Stream) (e : ℕ) → is_done (seen s) ≡ false → Has [] s (end e) → ⊥
not-done s e n h = contrary (is_done (seen s)) (ap (λ u. is_done (seen u)) (end-step s (end e) h)) n

-- the attributes of a definition and these modules were read
pub record Defined (ps : List PatternTree) (ms : List ModuleTree) (s r : Stream) : Type 0 where
  pub starts : Stream
  pub attributes : Reads spell_attributes ps s starts
  pub modules : (e : ℕ) → Follows spell_module ms [] (end e) starts r

pub definition-read : (ps : List PatternTree) (ms : List ModuleTree) (s r : Stream)
    → Defined ps ms s r → is_done (seen r) ≡ true → (t : DefinitionTree) (e : ℕ)
    → Has (spell_definition t []) s (end e) → t ≡ record { attributes = ps; modules = ms }
definition-read ps ms s r d n t e h =
    let k1 : List Requirement = in_order (map spell_module t.modules) [] in
    let g = given-step (is_some_module t.modules) (spell_attributes t.attributes k1) s (end e) h in
    let x =
    d.attributes.exact t.attributes k1 (end e) (apart-modules t.modules [] (end e) tt) g.1 in
    let y =
    follows-end spell_module ms [] (end e) d.starts r (d.modules e) (no-module r n) t.modules
    x.1 in
    ap (λ u. let v : DefinitionTree = record { attributes = u; modules = t.modules } in v) x.0
    ∙ ap (λ u. let v : DefinitionTree = record { attributes = ps; modules = u } in v) y.0
