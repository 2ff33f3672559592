-- What a token and the tokens after it say, by the move that the token makes.
use Rattle.std.proofs.Common.{◌≡◌, ℕ, Bool, true, false, List, [], ◌∷◌, map, Option, Some, None}
use Rattle.std.proofs.Common.{refl, ap, sym, subst, codes, if◌then◌else◌}
use Rattle.std.specs.Str.{bytes_eq}
use Rattle.kore_text.specs.declared.names.Op.{Op}
use Rattle.kore_text.specs.declared.names.Built.{Built}
use Rattle.kore_text.specs.declared.names.Built.TheVariants.{Connective, Binding, Value, Fold}
use Rattle.kore_text.specs.declared.symbols.Close.{Close}
use Rattle.kore_text.specs.declared.symbols.Close.TheVariants as close
use Rattle.kore_text.specs.declared.symbols.Item.{Item}
use Rattle.kore_text.specs.declared.symbols.Item.TheVariants as item
use Rattle.kore_text.specs.declared.symbols.Symbol.{Symbol}
use Rattle.kore_text.specs.declared.symbols.Symbol.TheVariants as symbol
use Rattle.kore_text.specs.TokenStream.{KoreToken, identifier, set_identifier, builtin}
use Rattle.kore_text.specs.TokenStream.{string_token, mark, assign, Stream, token}
use Rattle.kore_text.specs.Trees.{SortTree, no_sorts, sort_then, sort_trees, ModuleTree}
use Rattle.kore_text.specs.Trees.{import_declaration, sort_declaration, symbol_declaration}
use Rattle.kore_text.specs.Trees.{alias_declaration, axiom_declaration, claim_declaration}
use Rattle.kore_text.specs.Grammar.{Requirement, any, listed, more_listed, in_order, is_associative}
use Rattle.kore_text.specs.Grammar.{spell_names, spell_sort, spell_sorts, spell_pattern, sort_word}
use Rattle.kore_text.specs.Grammar.{symbol_word, spell_attributes, spell_signature, spell_body}
use Rattle.kore_text.specs.Grammar.{spell_module}
use Rattle.kore_text.specs.Table.{byte_of, symbol_of, turn, no_arguments, folded_arguments, exactly}
use Rattle.kore_text.specs.Table.{when, item_move, folded_move, folded_built_move, word_move}
use Rattle.kore_text.specs.Table.{keyword_move, rest_of, declarations_move}
use Rattle.kore_text.specs.Apart.{is_mark}
use Rattle.std.proofs.lemmas.Slice.Eq.{bytes_eq-Decides}
use Rattle.kore_text.specs.Faults.{head_of_symbol, of_connective}
use Rattle.kore_text.proofs.Saying.{ItemTree, spell_item, Says, Pieces, along, said}
use Rattle.kore_text.proofs.ReturningFolds.{Moved, when-back, mark-is, as-sorts, name-back}
use Rattle.kore_text.proofs.ReturningFolds.{text-back, assign-back, sort-back, sort-tail-back}
use Rattle.kore_text.proofs.ReturningFolds.{variable-back, pattern-back, pattern-tail-back}
use Rattle.kore_text.proofs.ReturningFolds.{folded-connective-back, folded-symbol-back}

empty-connective-back : (o : Op) (p : ℕ) (s r : Stream) → is_associative o ≡ true
    → Pieces (symbol.Mark 123 ∷ exactly symbol.Sort close.Brace 1 no_arguments) s r
    → Says symbol.EmptyFolded (token (builtin (Some (Connective o))) p s) r
empty-connective-back o p s r a m =
    let t : SortTree = m.2.1.0 in
    let k : Pieces (symbol.Mark 125 ∷ no_arguments) m.2.0 r = m.2.2 in
    let g : Pieces (symbol.Mark 41 ∷ []) k.2.0 r = k.2.2 in (
      of_connective o (sort_then t no_sorts),
      λ w e h. (
        a,
        (
          refl,
          (
            refl,
            m.1 (spell_sort t (any (mark 125) ∷ any (mark 40) ∷ any (mark 41) ∷ w)) e
                (m.2.1.1 (any (mark 125) ∷ any (mark 40) ∷ any (mark 41) ∷ w) e
                (k.1 (any (mark 40) ∷ any (mark 41) ∷ w) e
                (k.2.1 (any (mark 41) ∷ w) e (g.1 w e (along g.0 r g.2 w e h))))),
          ),
        ),
      ),
    )

empty-symbol-back : (n : List ℕ) (p : ℕ) (s r : Stream)
    → Pieces (symbol.Mark 123 ∷ symbol.First item.Sort close.Brace ∷ no_arguments) s r
    → Says symbol.EmptyFolded (token (identifier n) p s) r
empty-symbol-back n p s r m =
    let xs : List SortTree = m.2.1.0 in
    let k : Pieces no_arguments m.2.0 r = m.2.2 in
    let g : Pieces (symbol.Mark 41 ∷ []) k.0 r = k.2 in (
      head_of_symbol n (sort_trees xs),
      λ w e h. (
        refl,
        m.1 (listed (spell_sorts (sort_trees xs)) 125 (any (mark 40) ∷ any (mark 41) ∷ w)) e
            (as-sorts xs m.0 m.2.0 m.2.1.1 (any (mark 40) ∷ any (mark 41) ∷ w) e
            (k.1 (any (mark 41) ∷ w) e (g.1 w e (along g.0 r g.2 w e h)))),
      ),
    )

folded-built-back : (b : Bool) (x : Option Built) (p : ℕ) (s r : Stream)
    → Moved (folded_built_move (folded_arguments b) x) s r
    → Says (symbol.Folded b) (token (builtin x) p s) r
folded-built-back b None p s r m = absurd m
folded-built-back b (Some (Connective o)) p s r m =
    let x =
    when-back (is_associative o)
    (symbol.Mark 123 ∷ exactly symbol.Sort close.Brace 1 (folded_arguments b)) s r m in
    folded-connective-back b o p s r x.0 x.1
folded-built-back b (Some (Binding o)) p s r m = absurd m
folded-built-back b (Some Value) p s r m = absurd m
folded-built-back b (Some (Fold left)) p s r m = absurd m

folded-back : (b : Bool) (t : KoreToken) (p : ℕ) (s r : Stream)
    → Moved (folded_move (folded_arguments b) t) s r → Says (symbol.Folded b) (token t p s) r
folded-back b (identifier n) p s r m = folded-symbol-back b n p s r m
folded-back b (builtin x) p s r m = folded-built-back b x p s r m
folded-back b (set_identifier n) p s r m = absurd m
folded-back b (string_token n) p s r m = absurd m
folded-back b (mark d) p s r m = absurd m
folded-back b assign p s r m = absurd m

empty-built-back : (x : Option Built) (p : ℕ) (s r : Stream)
    → Moved (folded_built_move no_arguments x) s r
    → Says symbol.EmptyFolded (token (builtin x) p s) r
empty-built-back None p s r m = absurd m
empty-built-back (Some (Connective o)) p s r m =
    let x =
    when-back (is_associative o)
    (symbol.Mark 123 ∷ exactly symbol.Sort close.Brace 1 no_arguments) s r m in
    empty-connective-back o p s r x.0 x.1
empty-built-back (Some (Binding o)) p s r m = absurd m
empty-built-back (Some Value) p s r m = absurd m
empty-built-back (Some (Fold left)) p s r m = absurd m

empty-back : (t : KoreToken) (p : ℕ) (s r : Stream) → Moved (folded_move no_arguments t) s r
    → Says symbol.EmptyFolded (token t p s) r
empty-back (identifier n) p s r m = empty-symbol-back n p s r m
empty-back (builtin x) p s r m = empty-built-back x p s r m
empty-back (set_identifier n) p s r m = absurd m
empty-back (string_token n) p s r m = absurd m
empty-back (mark d) p s r m = absurd m
empty-back assign p s r m = absurd m

item-back : (i : Item) (t : KoreToken) (p : ℕ) (s r : Stream) → Moved (item_move i t) s r
    → Says (symbol_of i) (token t p s) r
item-back item.Name t p s r m = name-back t p s r m
item-back item.Sort t p s r m = sort-back t p s r m
item-back (item.Pattern b) t p s r m = pattern-back b t p s r m

pub first-back : (i : Item) (c : Close) (t : KoreToken) (p : ℕ) (s q r : Stream)
    → Moved (item_move i t) s q → Says (symbol.More i c) q r
    → Says (symbol.First i c) (token t p s) r
first-back i c t p s q r m n =
    let x = said i (token t p s) q (item-back i t p s q m) in
    (x.0 ∷ n.0, λ w e h. x.1 (more_listed (map (spell_item i) n.0) (byte_of c) w) e (n.1 w e h))

pub close-back : (i : Item) (c : Close) (t : KoreToken) (p : ℕ) (s : Stream)
    → is_mark (byte_of c) t ≡ true → Says (symbol.First i c) (token t p s) s
close-back i c t p s a = ([], λ w e h. (mark-is (byte_of c) t a, h))

more-choice : (i : Item) (c : Close) (t : KoreToken) (p : ℕ) (x y : Bool) (s r : Stream)
    → x ≡ is_mark (byte_of c) t → y ≡ is_mark 44 t
    → Moved (if x then Some [] else when y (symbol_of i ∷ symbol.More i c ∷ [])) s r
    → Says (symbol.More i c) (token t p s) r
more-choice i c t p true y s r a b m =
    ([], λ w e h. (mark-is (byte_of c) t (sym a), along s r m w e h))
more-choice i c t p false true s r a b m =
    let x = said i s m.0 m.1 in
    let ys : List (ItemTree i) = m.2.1.0 in (
      x.0
          ∷ ys,
      λ w e h. (
        mark-is 44 t (sym b),
        x.1 (more_listed (map (spell_item i) ys) (byte_of c) w) e
            (m.2.1.1 w e (along m.2.0 r m.2.2 w e h)),
      ),
    )
more-choice i c t p false false s r a b m = absurd m

attributes-back : (t : KoreToken) (p : ℕ) (s r : Stream)
    → Moved (when (is_mark 91 t) (symbol.First (item.Pattern true) close.Bracket ∷ [])) s r
    → Says symbol.Attributes (token t p s) r
attributes-back t p s r m =
    let x = when-back (is_mark 91 t) (symbol.First (item.Pattern true) close.Bracket ∷ []) s r m in
    (x.1.1.0, λ w e h. (mark-is 91 t x.0, x.1.1.1 w e (along x.1.0 r x.1.2 w e h)))

names-back : (t : KoreToken) (p : ℕ) (s r : Stream)
    → Moved (when (is_mark 123 t) (symbol.First item.Name close.Brace ∷ [])) s r
    → Says symbol.Names (token t p s) r
names-back t p s r m =
    let x = when-back (is_mark 123 t) (symbol.First item.Name close.Brace ∷ []) s r m in
    (x.1.1.0, λ w e h. (mark-is 123 t x.0, x.1.1.1 w e (along x.1.0 r x.1.2 w e h)))

signature-back : (t : KoreToken) (p : ℕ) (s r : Stream)
    → Moved (when (is_mark 40 t)
    (symbol.First item.Sort close.Paren ∷ symbol.Mark 58 ∷ symbol.Sort ∷ [])) s r
    → Says symbol.Signature (token t p s) r
signature-back t p s r m =
    let x =
    when-back (is_mark 40 t)
    (symbol.First item.Sort close.Paren ∷ symbol.Mark 58 ∷ symbol.Sort ∷ []) s r m in
    let k : Pieces (symbol.Mark 58 ∷ symbol.Sort ∷ []) x.1.0 r = x.1.2 in
    let u : SortTree = k.2.1.0 in (
      x.1.1.0,
      u,
      λ w e h. (
        mark-is 40 t x.0,
        x.1.1.1 (any (mark 58) ∷ spell_sort u w) e
            (k.1 (spell_sort u w) e (k.2.1.1 w e (along k.2.0 r k.2.2 w e h))),
      ),
    )

word-is : (n w : List ℕ) → bytes_eq n w ≡ true → n ≡ w
word-is n w h = (bytes_eq-Decides n w).0 h

keyword-choice : (n w : List ℕ) (b : List Symbol) (s r : Stream) → Moved (when (bytes_eq n w) b) s r
    → (n ≡ w) × Pieces b s r
keyword-choice n w b s r m = let x = when-back (bytes_eq n w) b s r m in (word-is n w x.0, x.1)

where-back : (t : KoreToken) (p : ℕ) (s r : Stream) → Moved (keyword_move (codes "where") [] t) s r
    → Says symbol.Where (token t p s) r
where-back (identifier n) p s r m =
    let x = keyword-choice n (codes "where") [] s r m in
    (λ w e h. (ap identifier x.0, along s r x.1 w e h))
where-back (set_identifier n) p s r m = absurd m
where-back (builtin x) p s r m = absurd m
where-back (string_token n) p s r m = absurd m
where-back (mark d) p s r m = absurd m
where-back assign p s r m = absurd m

module-back : (t : KoreToken) (p : ℕ) (s r : Stream)
    → Moved (keyword_move (codes "module") (symbol.Name ∷ symbol.Declarations ∷ []) t) s r
    → Says symbol.Module (token t p s) r
module-back (identifier n) p s r m =
    let x = keyword-choice n (codes "module") (symbol.Name ∷ symbol.Declarations ∷ []) s r m in
    let k : Pieces (symbol.Declarations ∷ []) x.1.0 r = x.1.2 in (
      record { at = p; name = x.1.1.0; declarations = k.1.0; attributes = k.1.1 },
      λ w e h. (
        ap identifier x.0,
        refl,
        x.1.1.1 (spell_body k.1.0 k.1.1 w) e (k.1.2 w e (along k.0 r k.2 w e h)),
      ),
    )
module-back (set_identifier n) p s r m = absurd m
module-back (builtin x) p s r m = absurd m
module-back (string_token n) p s r m = absurd m
module-back (mark d) p s r m = absurd m
module-back assign p s r m = absurd m

modules-back : (t : KoreToken) (p : ℕ) (s r : Stream)
    → Moved
    (keyword_move (codes "module") (symbol.Name ∷ symbol.Declarations ∷ symbol.Modules ∷ []) t)
    s r → Says symbol.Modules (token t p s) r
modules-back (identifier n) p s r m =
    let x =
    keyword-choice n (codes "module") (symbol.Name ∷ symbol.Declarations ∷ symbol.Modules ∷ [])
    s r m in
    let k : Pieces (symbol.Declarations ∷ symbol.Modules ∷ []) x.1.0 r = x.1.2 in
    let ms : List ModuleTree = k.2.1.0 in (
      record { at = p; name = x.1.1.0; declarations = k.1.0; attributes = k.1.1 } ∷ ms,
      λ w e h. (
        ap identifier x.0,
        refl,
        x.1.1.1 (spell_body k.1.0 k.1.1 (in_order (map spell_module ms) w)) e
            (k.1.2 (in_order (map spell_module ms) w) e
            (k.2.1.1 w e (along k.2.0 r k.2.2 w e h))),
      ),
    )
modules-back (set_identifier n) p s r m = absurd m
modules-back (builtin x) p s r m = absurd m
modules-back (string_token n) p s r m = absurd m
modules-back (mark d) p s r m = absurd m
modules-back assign p s r m = absurd m

choose : (x : Bool) (A B : Option (List Symbol)) (s r : Stream) (Z : Type 0)
    → Moved (if x then A else B) s r → ((x ≡ true) → Moved A s r → Z) → (Moved B s r → Z) → Z
choose true A B s r Z m f g = f refl m
choose false A B s r Z m f g = g m

endmodule-back : (n : List ℕ) (p : ℕ) (s r : Stream) → n ≡ codes "endmodule"
    → Pieces (symbol.Attributes ∷ []) s r → Says symbol.Declarations (token (identifier n) p s) r
endmodule-back n p s r i m =
    ([], m.1.0, λ w e h. (ap identifier i, m.1.1 w e (along m.0 r m.2 w e h)))

import-back : (n : List ℕ) (p : ℕ) (s r : Stream) → n ≡ codes "import"
    → Pieces (symbol.Name ∷ symbol.Attributes ∷ symbol.Declarations ∷ []) s r
    → Says symbol.Declarations (token (identifier n) p s) r
import-back n p s r i m =
    let k : Pieces (symbol.Attributes ∷ symbol.Declarations ∷ []) m.0 r = m.2 in
    let g : Pieces (symbol.Declarations ∷ []) k.0 r = k.2 in (
      import_declaration (record { at = p; name = m.1.0; attributes = k.1.0 }) ∷ g.1.0,
      g.1.1,
      λ w e h. (
        ap identifier i,
        refl,
        m.1.1 (spell_attributes k.1.0 (spell_body g.1.0 g.1.1 w)) e
            (k.1.1 (spell_body g.1.0 g.1.1 w) e (g.1.2 w e (along g.0 r g.2 w e h))),
      ),
    )

sort-declaration-back : (n : List ℕ) (b : Bool) (p : ℕ) (s r : Stream) → n ≡ sort_word b
    → Pieces (symbol.Name ∷ symbol.Names ∷ symbol.Attributes ∷ symbol.Declarations ∷ []) s r
    → Says symbol.Declarations (token (identifier n) p s) r
sort-declaration-back n b p s r i m =
    let l : Pieces (symbol.Names ∷ symbol.Attributes ∷ symbol.Declarations ∷ []) m.0 r = m.2 in
    let k : Pieces (symbol.Attributes ∷ symbol.Declarations ∷ []) l.0 r = l.2 in
    let g : Pieces (symbol.Declarations ∷ []) k.0 r = k.2 in (
      sort_declaration
          (record { at = p; hooked = b; name = m.1.0; params = l.1.0; attributes = k.1.0 })
          ∷ g.1.0,
      g.1.1,
      λ w e h. (
        ap identifier i,
        refl,
        m.1.1 (spell_names l.1.0 (spell_attributes k.1.0 (spell_body g.1.0 g.1.1 w))) e
            (l.1.1 (spell_attributes k.1.0 (spell_body g.1.0 g.1.1 w)) e
            (k.1.1 (spell_body g.1.0 g.1.1 w) e (g.1.2 w e (along g.0 r g.2 w e h)))),
      ),
    )

symbol-declaration-back : (n : List ℕ) (b : Bool) (p : ℕ) (s r : Stream) → n ≡ symbol_word b
    → Pieces (symbol.Name ∷ symbol.Names ∷ symbol.Signature ∷ symbol.Attributes
    ∷ symbol.Declarations ∷ []) s r
    → Says symbol.Declarations (token (identifier n) p s) r
symbol-declaration-back n b p s r i m =
    let l : Pieces (symbol.Names ∷ symbol.Signature ∷ symbol.Attributes ∷ symbol.Declarations ∷ [])
    m.0 r =
    m.2 in
    let j : Pieces (symbol.Signature ∷ symbol.Attributes ∷ symbol.Declarations ∷ []) l.0 r = l.2 in
    let k : Pieces (symbol.Attributes ∷ symbol.Declarations ∷ []) j.0 r = j.2 in
    let g : Pieces (symbol.Declarations ∷ []) k.0 r = k.2 in (
      symbol_declaration (record {
        at = p;
        hooked = b;
        name = m.1.0;
        params = l.1.0;
        args = j.1.0;
        result = j.1.1;
        attributes = k.1.0;
      }) ∷ g.1.0,
      g.1.1,
      λ w e h. (
        ap identifier i,
        refl,
        m.1.1 (spell_names l.1.0
            (spell_signature j.1.0 j.1.1 (spell_attributes k.1.0 (spell_body g.1.0 g.1.1 w)))) e
            (l.1.1 (spell_signature j.1.0 j.1.1 (spell_attributes k.1.0 (spell_body g.1.0 g.1.1 w)))
            e
            (j.1.2 (spell_attributes k.1.0 (spell_body g.1.0 g.1.1 w)) e
            (k.1.1 (spell_body g.1.0 g.1.1 w) e (g.1.2 w e (along g.0 r g.2 w e h))))),
      ),
    )

alias-back : (n : List ℕ) (p : ℕ) (s r : Stream) → n ≡ codes "alias"
    → Pieces (symbol.Name ∷ symbol.Names ∷ symbol.Signature ∷ symbol.Where ∷ symbol.Name
    ∷ symbol.Mark 123 ∷ symbol.First item.Sort close.Brace ∷ symbol.Mark 40
    ∷ symbol.First (item.Pattern false) close.Paren ∷ symbol.Assign ∷ symbol.Pattern false
    ∷ symbol.Attributes ∷ symbol.Declarations ∷ []) s r
    → Says symbol.Declarations (token (identifier n) p s) r
alias-back n p s r i m =
    let m1 : Pieces (symbol.Names ∷ symbol.Signature ∷ symbol.Where ∷ symbol.Name ∷ symbol.Mark 123
    ∷ symbol.First item.Sort close.Brace ∷ symbol.Mark 40
    ∷ symbol.First (item.Pattern false) close.Paren ∷ symbol.Assign ∷ symbol.Pattern false
    ∷ symbol.Attributes ∷ symbol.Declarations ∷ []) m.0 r = m.2 in
    let m2 : Pieces (symbol.Signature ∷ symbol.Where ∷ symbol.Name ∷ symbol.Mark 123
    ∷ symbol.First item.Sort close.Brace ∷ symbol.Mark 40
    ∷ symbol.First (item.Pattern false) close.Paren ∷ symbol.Assign ∷ symbol.Pattern false
    ∷ symbol.Attributes ∷ symbol.Declarations ∷ []) m1.0 r = m1.2 in
    let m3 : Pieces (symbol.Where ∷ symbol.Name ∷ symbol.Mark 123
    ∷ symbol.First item.Sort close.Brace ∷ symbol.Mark 40
    ∷ symbol.First (item.Pattern false) close.Paren ∷ symbol.Assign ∷ symbol.Pattern false
    ∷ symbol.Attributes ∷ symbol.Declarations ∷ []) m2.0 r = m2.2 in
    let m4 : Pieces
    (symbol.Name ∷ symbol.Mark 123 ∷ symbol.First item.Sort close.Brace ∷ symbol.Mark 40
    ∷ symbol.First (item.Pattern false) close.Paren ∷ symbol.Assign ∷ symbol.Pattern false
    ∷ symbol.Attributes ∷ symbol.Declarations ∷ []) m3.0 r = m3.2 in
    let m5 : Pieces (symbol.Mark 123 ∷ symbol.First item.Sort close.Brace ∷ symbol.Mark 40
    ∷ symbol.First (item.Pattern false) close.Paren ∷ symbol.Assign ∷ symbol.Pattern false
    ∷ symbol.Attributes ∷ symbol.Declarations ∷ []) m4.0 r = m4.2 in
    let m6 : Pieces (symbol.First item.Sort close.Brace ∷ symbol.Mark 40
    ∷ symbol.First (item.Pattern false) close.Paren ∷ symbol.Assign
    ∷ symbol.Pattern false ∷ symbol.Attributes ∷ symbol.Declarations ∷ []) m5.0 r =
    m5.2 in
    let m7 : Pieces (symbol.Mark 40 ∷ symbol.First (item.Pattern false) close.Paren ∷ symbol.Assign
    ∷ symbol.Pattern false ∷ symbol.Attributes ∷ symbol.Declarations ∷ []) m6.0 r =
    m6.2 in
    let m8 : Pieces (symbol.First (item.Pattern false) close.Paren ∷ symbol.Assign
    ∷ symbol.Pattern false ∷ symbol.Attributes ∷ symbol.Declarations ∷ []) m7.0 r =
    m7.2 in
    let m9 : Pieces
    (symbol.Assign ∷ symbol.Pattern false ∷ symbol.Attributes ∷ symbol.Declarations ∷ [])
    m8.0 r =
    m8.2 in
    let n1 : Pieces (symbol.Pattern false ∷ symbol.Attributes ∷ symbol.Declarations ∷ []) m9.0 r =
    m9.2 in
    let n2 : Pieces (symbol.Attributes ∷ symbol.Declarations ∷ []) n1.0 r = n1.2 in
    let n3 : Pieces (symbol.Declarations ∷ []) n2.0 r = n2.2 in
    let v8 : List Requirement → List Requirement = λ w. spell_body n3.1.0 n3.1.1 w in
    let v7 : List Requirement → List Requirement = λ w. spell_attributes n2.1.0 (v8 w) in
    let v6 : List Requirement → List Requirement = λ w. spell_pattern false n1.1.0 (v7 w) in
    let v5 : List Requirement → List Requirement =
    λ w. listed (map (spell_pattern false) m8.1.0) 41 (any assign ∷ v6 w) in
    let v4 : List Requirement → List Requirement =
    λ w. listed (map spell_sort m6.1.0) 125 (any (mark 40) ∷ v5 w) in
    let v3 : List Requirement → List Requirement =
    λ w. any (identifier m4.1.0) ∷ any (mark 123) ∷ v4 w in
    let v2 : List Requirement → List Requirement =
    λ w. spell_signature m2.1.0 m2.1.1 (any (identifier (codes "where")) ∷ v3 w) in (
      alias_declaration (record {
        at = p;
        hooked = false;
        name = m.1.0;
        params = m1.1.0;
        args = m2.1.0;
        result = m2.1.1;
        left_name = m4.1.0;
        left_sorts = m6.1.0;
        vars = m8.1.0;
        body = n1.1.0;
        attributes = n2.1.0;
      }) ∷ n3.1.0,
      n3.1.1,
      λ w e h. (
        refl,
        (
          ap identifier i,
          refl,
          m.1.1 (spell_names m1.1.0 (v2 w)) e (m1.1.1 (v2 w) e (m2.1.2
              (any (identifier (codes "where")) ∷ v3 w) e
              (m3.1 (v3 w) e (m4.1.1 (any (mark 123) ∷ v4 w) e
              (m5.1 (v4 w) e (m6.1.1 (any (mark 40) ∷ v5 w) e (m7.1 (v5 w) e
              (m8.1.1 (any assign ∷ v6 w) e (m9.1 (v6 w) e (n1.1.1 (v7 w) e (n2.1.1 (v8 w) e
              (n3.1.2 w e (along n3.0 r n3.2 w e h))))))))))))),
        ),
      ),
    )

axiom-back : (n : List ℕ) (p : ℕ) (s r : Stream) → n ≡ codes "axiom"
    → Pieces (symbol.Names ∷ symbol.Pattern false ∷ symbol.Attributes ∷ symbol.Declarations ∷ []) s
    r → Says symbol.Declarations (token (identifier n) p s) r
axiom-back n p s r i m =
    let l : Pieces (symbol.Pattern false ∷ symbol.Attributes ∷ symbol.Declarations ∷ []) m.0 r =
    m.2 in
    let k : Pieces (symbol.Attributes ∷ symbol.Declarations ∷ []) l.0 r = l.2 in
    let g : Pieces (symbol.Declarations ∷ []) k.0 r = k.2 in (
      axiom_declaration (record { at = p; params = m.1.0; pattern = l.1.0; attributes = k.1.0 })
          ∷ g.1.0,
      g.1.1,
      λ w e h. (
        ap identifier i,
        refl,
        m.1.1 (spell_pattern false l.1.0 (spell_attributes k.1.0 (spell_body g.1.0 g.1.1 w))) e
            (l.1.1 (spell_attributes k.1.0 (spell_body g.1.0 g.1.1 w)) e
            (k.1.1 (spell_body g.1.0 g.1.1 w) e (g.1.2 w e (along g.0 r g.2 w e h)))),
      ),
    )

claim-back : (n : List ℕ) (p : ℕ) (s r : Stream) → n ≡ codes "claim"
    → Pieces (symbol.Names ∷ symbol.Pattern false ∷ symbol.Attributes ∷ symbol.Declarations ∷ []) s
    r → Says symbol.Declarations (token (identifier n) p s) r
claim-back n p s r i m =
    let l : Pieces (symbol.Pattern false ∷ symbol.Attributes ∷ symbol.Declarations ∷ []) m.0 r =
    m.2 in
    let k : Pieces (symbol.Attributes ∷ symbol.Declarations ∷ []) l.0 r = l.2 in
    let g : Pieces (symbol.Declarations ∷ []) k.0 r = k.2 in (
      claim_declaration (record { at = p; params = m.1.0; pattern = l.1.0; attributes = k.1.0 })
          ∷ g.1.0,
      g.1.1,
      λ w e h. (
        ap identifier i,
        refl,
        m.1.1 (spell_pattern false l.1.0 (spell_attributes k.1.0 (spell_body g.1.0 g.1.1 w))) e
            (l.1.1 (spell_attributes k.1.0 (spell_body g.1.0 g.1.1 w)) e
            (k.1.1 (spell_body g.1.0 g.1.1 w) e (g.1.2 w e (along g.0 r g.2 w e h)))),
      ),
    )

word-back : (n : List ℕ) (p : ℕ) (s r : Stream) → Moved (word_move n) s r
    → Says symbol.Declarations (token (identifier n) p s) r
word-back n p s r m =
    let Z : Type 0 = Says symbol.Declarations (token (identifier n) p s) r in
    choose (bytes_eq n (codes "endmodule")) _ _ s r Z m
    (λ i y. endmodule-back n p s r (word-is n (codes "endmodule") i) y) (λ x.
    choose (bytes_eq n (codes "import")) _ _ s r Z x
    (λ i y. import-back n p s r (word-is n (codes "import") i) y) (λ x.
    choose (bytes_eq n (codes "sort")) _ _ s r Z x
    (λ i y. sort-declaration-back n false p s r (word-is n (codes "sort") i) y) (λ x.
    choose (bytes_eq n (codes "hooked-sort")) _ _ s r Z x
    (λ i y. sort-declaration-back n true p s r (word-is n (codes "hooked-sort") i) y) (λ x.
    choose (bytes_eq n (codes "symbol")) _ _ s r Z x
    (λ i y. symbol-declaration-back n false p s r (word-is n (codes "symbol") i) y) (λ x.
    choose (bytes_eq n (codes "hooked-symbol")) _ _ s r Z x
    (λ i y. symbol-declaration-back n true p s r (word-is n (codes "hooked-symbol") i) y) (λ x.
    choose (bytes_eq n (codes "alias")) _ _ s r Z x
    (λ i y. alias-back n p s r (word-is n (codes "alias") i) y) (λ x.
    choose (bytes_eq n (codes "axiom")) _ _ s r Z x
    (λ i y. axiom-back n p s r (word-is n (codes "axiom") i) y) (λ x.
    choose (bytes_eq n (codes "claim")) _ _ s r Z x
    (λ i y. claim-back n p s r (word-is n (codes "claim") i) y) (λ x.
    absurd x)))))))))

declarations-back : (t : KoreToken) (p : ℕ) (s r : Stream) → Moved (declarations_move t) s r
    → Says symbol.Declarations (token t p s) r
declarations-back (identifier n) p s r m = word-back n p s r m
declarations-back (set_identifier n) p s r m = absurd m
declarations-back (builtin x) p s r m = absurd m
declarations-back (string_token n) p s r m = absurd m
declarations-back (mark d) p s r m = absurd m
declarations-back assign p s r m = absurd m

-- a list that is closed at once
first-choice : (i : Item) (c : Close) (t : KoreToken) (p : ℕ) (x : Bool) (s r : Stream)
    → x ≡ is_mark (byte_of c) t → Moved (if x then Some [] else item_move i t) s r
    → (if x then [] else (symbol.More i c ∷ [])) ≡ [] → Says (symbol.First i c) (token t p s) r
first-choice i c t p true s r a m n =
    subst (Says (symbol.First i c) (token t p s)) m (close-back i c t p s (sym a))
first-choice i c t p false s r a m n = let z : ⊥ = cc in absurd z

-- a symbol that begins no list, by the move of its first token
pub move-back : (f : Symbol) (t : KoreToken) (p : ℕ) (s r : Stream) → Moved (turn f t) s r
    → rest_of f t [] ≡ [] → Says f (token t p s) r
unfolding turn
move-back (symbol.Mark c) t p s r m i =
    let x = when-back (is_mark c t) [] s r m in λ w e h. (mark-is c t x.0, along s r x.1 w e h)
move-back symbol.Name t p s r m i = name-back t p s r m
move-back symbol.Where t p s r m i = where-back t p s r m
move-back symbol.Assign t p s r m i = assign-back t p s r m
move-back symbol.Text t p s r m i = text-back t p s r m
move-back symbol.Sort t p s r m i = sort-back t p s r m
move-back symbol.SortTail t p s r m i = sort-tail-back t p s r m
move-back (symbol.Pattern b) t p s r m i = pattern-back b t p s r m
move-back (symbol.PatternTail b) t p s r m i = pattern-tail-back b t p s r m
move-back (symbol.Variable c) t p s r m i = variable-back c t p s r m
move-back (symbol.Folded b) t p s r m i = folded-back b t p s r m
move-back symbol.EmptyFolded t p s r m i = empty-back t p s r m
move-back (symbol.First j c) t p s r m i = first-choice j c t p (is_mark (byte_of c) t) s r refl m i
move-back (symbol.More j c) t p s r m i =
    more-choice j c t p (is_mark (byte_of c) t) (is_mark 44 t) s r refl refl m
move-back symbol.Attributes t p s r m i = attributes-back t p s r m
move-back symbol.Names t p s r m i = names-back t p s r m
move-back symbol.Signature t p s r m i = signature-back t p s r m
move-back symbol.Declarations t p s r m i = declarations-back t p s r m
move-back symbol.Module t p s r m i = module-back t p s r m
move-back symbol.Modules t p s r m i = modules-back t p s r m
