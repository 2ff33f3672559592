-- The names in a tree that bytes spell are identifiers. Only an identifier meets the requirement of
-- a name.
use Rattle.std.proofs.Common.{◌≤◌, ℕ, ◌+◌, ◌-◌, Bool, true, false, List, [], ◌∷◌, All, map, take}
use Rattle.std.proofs.Common.{drop, Some, subst, arith}
use Rattle.std.proofs.lemmas.List.Elements.{All-nil, All-cons}
use Rattle.kore_lex.specs.declared.lexer.TokenKind.{TokenKind}
use Rattle.kore_lex.specs.declared.lexer.TokenKind.TheVariants as kind
use Rattle.kore_lex.specs.Lexed.{Cut, cut_end, cut_fault, cut_token, lexed}
use Rattle.kore_lex.specs.Tokens.{IsName, IsToken}
use Rattle.kore_lex.specs.TokenLaws.{AreTokens, token_count, EachIsToken, TokensAreFew}
use Rattle.kore_text.specs.declared.names.Built.TheVariants.{Connective}
use Rattle.kore_text.specs.TokenStream.{KoreToken, identifier, set_identifier, builtin}
use Rattle.kore_text.specs.TokenStream.{string_token, mark, assign, Stream, end, no_token_at, token}
use Rattle.kore_text.specs.TokenStream.{token_then, named_tokens, token_stream}
use Rattle.kore_text.specs.Trees.{SortTree, sort_parameter, sort_applied, SortTrees, no_sorts}
use Rattle.kore_text.specs.Trees.{sort_then, PatternTree, element_variable, set_variable, string}
use Rattle.kore_text.specs.Trees.{symbol_applied, connected, binder_applied, value_written, folded}
use Rattle.kore_text.specs.Trees.{PatternTrees, no_patterns, pattern_then, AliasDeclaration}
use Rattle.kore_text.specs.Trees.{AxiomDeclaration, ModuleTree, Declaration, import_declaration}
use Rattle.kore_text.specs.Trees.{sort_declaration, symbol_declaration, alias_declaration}
use Rattle.kore_text.specs.Trees.{axiom_declaration, claim_declaration}
use Rattle.kore_text.specs.Grammar.{Requirement, placed, any, provided, Spelling, listed}
use Rattle.kore_text.specs.Grammar.{more_listed, in_order, TakesTokens, spell_name, spell_names}
use Rattle.kore_text.specs.Grammar.{spell_sort, spell_sorts, spell_applied, spell_pattern}
use Rattle.kore_text.specs.Grammar.{spell_patterns, spell_attributes, spell_signature}
use Rattle.kore_text.specs.Grammar.{spell_statement, spell_declaration, spell_module}
use Rattle.kore_text.specs.Grammar.{spell_definition}
use Rattle.kore_text.specs.Remaining.{size}
use Rattle.kore_text.specs.TextLaws.{NoMoreTokensThanBytes}
use Rattle.kore_text.specs.Identifiers.{IsNamedSort, AreNamedSorts, IsNamedPattern}
use Rattle.kore_text.specs.Identifiers.{AreNamedPatterns, IsNamedAlias, IsNamedAxiom}
use Rattle.kore_text.specs.Identifiers.{IsNamedDeclaration, IsNamedModule, NamesAreIdentifiers}
use Rattle.kore_text.specs.Identifiers.{PatternNamesAreIdentifiers}

-- the name in a token, if it has one, is an identifier
abbrev IsNamed : KoreToken → Type 0
IsNamed (identifier n) = IsName n
IsNamed (set_identifier n) = IsName n
IsNamed (builtin b) = Unit {0}
IsNamed (string_token t) = Unit {0}
IsNamed (mark c) = Unit {0}
IsNamed assign = Unit {0}

abbrev AreNamed : Stream → Type 0
AreNamed (end e) = Unit {0}
AreNamed (no_token_at e) = Unit {0}
AreNamed (token t p s) = IsNamed t × AreNamed s

ident-name : (bs : List ℕ) → IsToken kind.Ident bs → IsName bs
ident-name [] h = h
ident-name (c ∷ cs) h = h

set-name : (bs : List ℕ) → IsToken kind.SetIdent bs → IsName (drop 1 bs)
set-name [] h = absurd h
set-name (c ∷ cs) h = h.1

joined-named : (text : List ℕ) (k : TokenKind) (from to : ℕ) (s : Stream)
    → IsToken k (take (to - from) (drop from text)) → AreNamed s
    → AreNamed (token_then text k from to s)
joined-named text kind.End from to s h a = tt
joined-named text kind.Ident from to s h a = (ident-name (take (to - from) (drop from text)) h, a)
joined-named text kind.SetIdent from to s h a = (set-name (take (to - from) (drop from text)) h, a)
joined-named text kind.Builtin from to s h a = (tt, a)
joined-named text kind.Text from to s h a = (tt, a)
joined-named text (kind.Punct c) from to s h a = (tt, a)
joined-named text kind.Assign from to s h a = (tt, a)

named-are-named : (text : List ℕ) (s : Cut) → AreTokens text s → AreNamed (named_tokens text s)
named-are-named text (cut_end n) h = tt
named-are-named text (cut_fault n) h = tt
named-are-named text (cut_token k from to s) h =
    joined-named text k from to (named_tokens text s) h.0 (named-are-named text s h.1)

tokens-named : EachIsToken → (bytes : List ℕ) → AreNamed (token_stream bytes)
unfolding token_stream
tokens-named law bytes = named-are-named bytes (lexed 0 bytes) (law bytes)

-- the names in the requirements are identifiers
abbrev RequiresNamed : List Requirement → Type 0
RequiresNamed [] = Unit {0}
RequiresNamed (provided b ∷ ws) = RequiresNamed ws
RequiresNamed (any t ∷ ws) = IsNamed t × RequiresNamed ws
RequiresNamed (placed p t ∷ ws) = IsNamed t × RequiresNamed ws

taken : (ws : List Requirement) (s e : Stream) → TakesTokens ws s e → AreNamed s → RequiresNamed ws
taken [] s e h a = tt
taken (provided b ∷ ws) s e h a = taken ws s e h.1 a
taken (any u ∷ ws) (end x) e h a = absurd h
taken (any u ∷ ws) (no_token_at x) e h a = absurd h
taken (any u ∷ ws) (token t p s) e h a = (subst IsNamed h.0 a.0, taken ws s e h.1 a.1)
taken (placed q u ∷ ws) (end x) e h a = absurd h
taken (placed q u ∷ ws) (no_token_at x) e h a = absurd h
taken (placed q u ∷ ws) (token t p s) e h a = (subst IsNamed h.0 a.0, taken ws s e h.2 a.1)

-- a thing with this spelling has names that are identifiers
record Tells (f : Spelling) (P : Type 0) : Type 0 where
  pub told : (k : List Requirement) → RequiresNamed (f k) → P × RequiresNamed k

record TellsAll (fs : List Spelling) (P : Type 0) : Type 0 where
  pub first : (close : ℕ) (k : List Requirement) → RequiresNamed (listed fs close k)
      → P × RequiresNamed k
  pub further : (close : ℕ) (k : List Requirement) → RequiresNamed (more_listed fs close k)
      → P × RequiresNamed k

none-tells : {P : Type 0} → P → TellsAll [] P
none-tells p = record { first = λ close k h. (p, h.1); further = λ close k h. (p, h.1) }

more-tells : {P Q R : Type 0} (f : Spelling) (fs : List Spelling) → (P → Q → R) → Tells f P
    → TellsAll fs Q → TellsAll (f ∷ fs) R
more-tells f fs both p q = record {
  first = λ close k h.
      let r = p.told (more_listed fs close k) h in
      let t = q.further close k r.1 in (both r.0 t.0, t.1);
  further = λ close k h.
      let r = p.told (more_listed fs close k) h.1 in
      let t = q.further close k r.1 in (both r.0 t.0, t.1);
}

list-tells : {T : Type 0} (spell : T → Spelling) (P : T → Type 0)
    → ((t : T) → Tells (spell t) (P t)) → (ts : List T) → TellsAll (map spell ts) (All P ts)
list-tells spell P each [] = none-tells (All-nil P)
list-tells spell P each (t ∷ ts) =
    more-tells (spell t) (map spell ts) (λ one all. All-cons P t ts one all) (each t)
    (list-tells spell P each ts)

order-tells : {T : Type 0} (spell : T → Spelling) (P : T → Type 0)
    → ((t : T) → Tells (spell t) (P t)) → (ts : List T) (k : List Requirement)
    → RequiresNamed (in_order (map spell ts) k) → All P ts × RequiresNamed k
order-tells spell P each [] k h = (All-nil P, h)
order-tells spell P each (t ∷ ts) k h =
    let r = (each t).told (in_order (map spell ts) k) h in
    let rest = order-tells spell P each ts k r.1 in (All-cons P t ts r.0 rest.0, rest.1)

mutual
  sort-tells : (t : SortTree) → Tells (spell_sort t) (IsNamedSort t)
  sort-tells (sort_parameter at n) = record { told = λ k h. (h.0, h.1) }
  sort-tells (sort_applied at n ss) = record {
    told =
        λ k h. let r = (sorts-tell ss).first 125 k h.1.1 in ((h.0, r.0), r.1);
  }

  sorts-tell : (ss : SortTrees) → TellsAll (spell_sorts ss) (AreNamedSorts ss)
  sorts-tell no_sorts = none-tells tt
  sorts-tell (sort_then s ss) =
      more-tells (spell_sort s) (spell_sorts ss) (λ one all. (one, all)) (sort-tells s)
      (sorts-tell ss)

applied-tells : {P : Type 0} (at : ℕ) (t : KoreToken) (ss : SortTrees) (ps : List Spelling)
    → TellsAll ps P → (k : List Requirement) → RequiresNamed (spell_applied at t ss ps k)
    → IsNamed t × AreNamedSorts ss × P × RequiresNamed k
applied-tells at t ss ps q k h =
    let sorts = (sorts-tell ss).first 125 (any (mark 40) ∷ listed ps 41 k) h.1.1 in
    let args = q.first 41 k sorts.1.1 in (h.0, sorts.0, args.0, args.1)

mutual
  pattern-tells : (b : Bool) (t : PatternTree) → Tells (spell_pattern b t) (IsNamedPattern t)
  pattern-tells b (element_variable at n s) = record {
    told =
        λ k h. let r = (sort-tells s).told k h.1.1 in ((h.0, r.0), r.1);
  }
  pattern-tells b (set_variable at n s) = record {
    told =
        λ k h. let r = (sort-tells s).told k h.1.1 in ((h.0, r.0), r.1);
  }
  pattern-tells b (string at t) = record { told = λ k h. (tt, h.1) }
  pattern-tells b (symbol_applied at n ss ps) = record {
    told =
        λ k h. let r =
        applied-tells at (identifier n) ss (spell_patterns b ps) (patterns-tell b ps) k h in
        ((r.0, r.1, r.2), r.3);
  }
  pattern-tells b (connected at o ss ps) = record {
    told =
        λ k h. let r =
        applied-tells at (builtin (Some (Connective o))) ss (spell_patterns b ps)
        (patterns-tell b ps) k h in
        ((r.1, r.2), r.3);
  }
  pattern-tells b (binder_applied at o ss x p) = record {
    told = λ k h.
        let sorts =
        (sorts-tell ss).first 125 (any (mark 40)
        ∷ spell_pattern b x (any (mark 44) ∷ spell_pattern b p (any (mark 41) ∷ k)))
        h.1.1 in
        let variable =
        (pattern-tells b x).told (any (mark 44) ∷ spell_pattern b p (any (mark 41) ∷ k))
        sorts.1.1 in
        let body = (pattern-tells b p).told (any (mark 41) ∷ k) variable.1.1 in
        ((sorts.0, variable.0, body.0), body.1.1);
  }
  pattern-tells b (value_written at s t place) = record {
    told =
        λ k h. let r =
        (sort-tells s).told (any (mark 125) ∷ any (mark 40) ∷ placed place (string_token t)
        ∷ any (mark 41) ∷ k) h.1.1 in
        (r.0, r.1.1.1.1.1);
  }
  pattern-tells b (folded at left p) = record {
    told = λ k h. let r = (pattern-tells b p).told (any (mark 41) ∷ k) h.1.1.1.1 in (r.0, r.1.1);
  }

  patterns-tell : (b : Bool) (ts : PatternTrees)
      → TellsAll (spell_patterns b ts) (AreNamedPatterns ts)
  patterns-tell b no_patterns = none-tells tt
  patterns-tell b (pattern_then t ts) =
      more-tells (spell_pattern b t) (spell_patterns b ts) (λ one all. (one, all))
      (pattern-tells b t) (patterns-tell b ts)

name-tells : (n : List ℕ) → Tells (spell_name n) (IsName n)
name-tells n = record { told = λ k h. (h.0, h.1) }

names-tell : (ns : List (List ℕ)) (k : List Requirement) → RequiresNamed (spell_names ns k)
    → All IsName ns × RequiresNamed k
names-tell ns k h = (list-tells spell_name IsName name-tells ns).first 125 k h.1

attributes-tell : (ps : List PatternTree) (k : List Requirement)
    → RequiresNamed (spell_attributes ps k) → All IsNamedPattern ps × RequiresNamed k
attributes-tell ps k h =
    (list-tells (spell_pattern true) IsNamedPattern (pattern-tells true) ps).first 93 k h.1

sort-list-tells : (ss : List SortTree) → TellsAll (map spell_sort ss) (All IsNamedSort ss)
sort-list-tells ss = list-tells spell_sort IsNamedSort sort-tells ss

signature-tells : (args : List SortTree) (result : SortTree) (k : List Requirement)
    → RequiresNamed (spell_signature args result k)
    → All IsNamedSort args × IsNamedSort result × RequiresNamed k
signature-tells args result k h =
    let a = (sort-list-tells args).first 41 (any (mark 58) ∷ spell_sort result k) h.1 in
    let r = (sort-tells result).told k a.1.1 in (a.0, r.0, r.1)

alias-tells : (d : AliasDeclaration) (k : List Requirement)
    → RequiresNamed (spell_declaration (alias_declaration d) k) → IsNamedAlias d × RequiresNamed k
alias-tells d k h =
    let params = names-tell d.params _ h.1.1 in
    let signature = signature-tells d.args d.result _ params.1 in
    let sorts = (sort-list-tells d.left_sorts).first 125 _ signature.2.1.1.1 in
    let vars =
    (list-tells (spell_pattern false) IsNamedPattern (pattern-tells false) d.vars).first 41 _
    sorts.1.1 in
    let body = (pattern-tells false d.body).told (spell_attributes d.attributes k) vars.1.1 in
    let attributes = attributes-tell d.attributes k body.1 in (
      record {
        name = h.1.0;
        params = params.0;
        args = signature.0;
        result = signature.1;
        left_name = signature.2.1.0;
        left_sorts = sorts.0;
        vars = vars.0;
        body = body.0;
        attributes = attributes.0;
      },
      attributes.1,
    )

statement-tells : (d : AxiomDeclaration) (k : List Requirement)
    → RequiresNamed (spell_statement d k) → IsNamedAxiom d × RequiresNamed k
statement-tells d k h =
    let params =
    names-tell d.params (spell_pattern false d.pattern (spell_attributes d.attributes k)) h in
    let pattern = (pattern-tells false d.pattern).told (spell_attributes d.attributes k) params.1 in
    let attributes = attributes-tell d.attributes k pattern.1 in
    (record { params = params.0; pattern = pattern.0; attributes = attributes.0 }, attributes.1)

declared : (d : Declaration) (k : List Requirement) → RequiresNamed (spell_declaration d k)
    → IsNamedDeclaration d × RequiresNamed k
declared (import_declaration d) k h =
    let attributes = attributes-tell d.attributes k h.1.1 in
    (record { name = h.1.0; attributes = attributes.0 }, attributes.1)
declared (sort_declaration d) k h =
    let params = names-tell d.params (spell_attributes d.attributes k) h.1.1 in
    let attributes = attributes-tell d.attributes k params.1 in
    (record { name = h.1.0; params = params.0; attributes = attributes.0 }, attributes.1)
declared (symbol_declaration d) k h =
    let params =
    names-tell d.params (spell_signature d.args d.result (spell_attributes d.attributes k))
    h.1.1 in
    let signature = signature-tells d.args d.result (spell_attributes d.attributes k) params.1 in
    let attributes = attributes-tell d.attributes k signature.2 in (
      record {
        name = h.1.0;
        params = params.0;
        args = signature.0;
        result = signature.1;
        attributes = attributes.0;
      },
      attributes.1,
    )
declared (alias_declaration d) k h = alias-tells d k h
declared (axiom_declaration d) k h = statement-tells d k h.1
declared (claim_declaration d) k h = statement-tells d k h.1

declaration-tells : (d : Declaration) → Tells (spell_declaration d) (IsNamedDeclaration d)
declaration-tells d = record { told = declared d }

module-tells : (m : ModuleTree) → Tells (spell_module m) (IsNamedModule m)
module-tells m = record {
  told = λ k h.
      let body =
      order-tells spell_declaration IsNamedDeclaration declaration-tells m.declarations _
      h.1.1 in
      let attributes = attributes-tell m.attributes k body.1.1 in
      (record { name = h.1.0; declarations = body.0; attributes = attributes.0 }, attributes.1);
}

joined-few : (text : List ℕ) (k : TokenKind) (from to : ℕ) (s : Stream)
    → size (token_then text k from to s) ≤ size s + 1
unfolding size
joined-few text kind.End from to s = omega arith
joined-few text kind.Ident from to s = omega arith
joined-few text kind.SetIdent from to s = omega arith
joined-few text kind.Builtin from to s = omega arith
joined-few text kind.Text from to s = omega arith
joined-few text (kind.Punct c) from to s = omega arith
joined-few text kind.Assign from to s = omega arith

named-few : (text : List ℕ) (s : Cut) → size (named_tokens text s) ≤ token_count s
unfolding size
named-few text (cut_end e) = omega arith
named-few text (cut_fault e) = omega arith
named-few text (cut_token k from to s) =
    omega (arith, named-few text s, joined-few text k from to (named_tokens text s))

pub tokens-few : TokensAreFew → NoMoreTokensThanBytes
unfolding token_stream
tokens-few law bytes = omega (arith, law bytes, named-few bytes (lexed 0 bytes))

pub names-are-identifiers : EachIsToken → NamesAreIdentifiers
names-are-identifiers law bytes d e h =
    let w = taken (spell_definition d []) (token_stream bytes) (end e) h (tokens-named law bytes) in
    let attributes = attributes-tell d.attributes (in_order (map spell_module d.modules) []) w in
    let modules = order-tells spell_module IsNamedModule module-tells d.modules [] attributes.1 in
    record { attributes = attributes.0; modules = modules.0 }

pub pattern-names-are-identifiers : EachIsToken → PatternNamesAreIdentifiers
pattern-names-are-identifiers law bytes p e h =
    ((pattern-tells false p).told []
    (taken (spell_pattern false p []) (token_stream bytes) (end e) h (tokens-named law bytes))).0
