-- The axioms of a definition that bytes spell are at increasing places, below the number of the
-- bytes. None of them has more variables than half of that number.
use Rattle.std.proofs.Common.{◌≡◌, ◌<◌, ◌≤◌, ℕ, zero, suc, ◌+◌, ◌*◌, ◌-◌, Bool, true, false, cond}
use Rattle.std.proofs.Common.{List, [], ◌∷◌, ◌++◌, length, map, take, drop, Contains, Some, None}
use Rattle.std.proofs.Common.{Option, inl, inr, subst, arith, refl, sym, ap, ◌∙◌, length-drop}
use Rattle.std.specs.Prelude.{filter_map, flat_map, count_by, ◌==◌, codes}
use Rattle.std.specs.List.{cons_option}
use Rattle.std.proofs.lemmas.List.Elements.{filter_map-append}
use Rattle.std.proofs.lemmas.Bool.{eqb-true}
use Rattle.std.proofs.lemmas.List.Sums.{sum_by-cons}
use Rattle.kore_lex.specs.declared.lexer.TokenKind.{TokenKind}
use Rattle.kore_lex.specs.declared.lexer.TokenKind.TheVariants as kind
use Rattle.kore_lex.specs.Lexed.{Cut, cut_end, cut_fault, cut_token, lexed}
use Rattle.kore_lex.specs.Tokens.{IsToken}
use Rattle.kore_lex.specs.TokenLaws.{Covers, TokensCover}
use Rattle.kore_text.specs.TokenStream.{KoreToken, identifier, mark, builtin, string_token, assign}
use Rattle.kore_text.specs.TokenStream.{Stream, end, no_token_at, token, token_then, named_tokens}
use Rattle.kore_text.specs.TokenStream.{token_stream}
use Rattle.kore_text.specs.declared.names.Built.TheVariants.{Connective}
use Rattle.kore_text.specs.Trees.{SortTree, sort_parameter, sort_applied, SortTrees, no_sorts}
use Rattle.kore_text.specs.Trees.{sort_then, PatternTree, element_variable, set_variable, string}
use Rattle.kore_text.specs.Trees.{symbol_applied, connected, binder_applied, value_written, folded}
use Rattle.kore_text.specs.Trees.{PatternTrees, no_patterns, pattern_then, AliasDeclaration}
use Rattle.kore_text.specs.Trees.{AxiomDeclaration, ModuleTree, DefinitionTree, Declaration}
use Rattle.kore_text.specs.Trees.{import_declaration, sort_declaration, symbol_declaration}
use Rattle.kore_text.specs.Trees.{alias_declaration, axiom_declaration, claim_declaration}
use Rattle.kore_text.specs.Grammar.{Requirement, placed, any, provided, Spelling, listed}
use Rattle.kore_text.specs.Grammar.{more_listed, in_order, TakesTokens, spell_name, spell_names}
use Rattle.kore_text.specs.Grammar.{spell_sort, spell_sorts, spell_applied, spell_pattern}
use Rattle.kore_text.specs.Grammar.{spell_patterns, spell_attributes, spell_signature}
use Rattle.kore_text.specs.Grammar.{spell_statement, spell_declaration, spell_module}
use Rattle.kore_text.specs.Grammar.{spell_definition}
use Rattle.kore_ast.specs.KoreText.{ReadsDefinition}
use Rattle.kore_sig.specs.CountedModules.{counts, counted}
use Rattle.kore_sig.specs.Declarations.{axiom_declared, axioms_of}
use Rattle.kore_sig.proofs.FirstLaws.{contains_cases, contains_none}
use Rattle.kore_rules.proofs.VariableCounts.{variable_count, variables_count}

-- ---- tokens

-- the tokens are at increasing places, from the one place on and below the other
abbrev pub Stand : ℕ → ℕ → Stream → Type 0
Stand low high (end e) = low ≤ high
Stand low high (no_token_at e) = low ≤ high
Stand low high (token t p s) = (low ≤ p) × (p < high) × Stand (p + 1) high s

stand-lower : (low less high : ℕ) (s : Stream) → less ≤ low → Stand low high s → Stand less high s
stand-lower low less high (end e) le h = omega (arith, le, h)
stand-lower low less high (no_token_at e) le h = omega (arith, le, h)
stand-lower low less high (token t p s) le h = ((let a = h.0 in omega arith), h.1, h.2)

joined-stand : (text : List ℕ) (k : TokenKind) (from to low high : ℕ) (s : Stream) → low ≤ from
    → from < high → Stand (from + 1) high s → Stand low high (token_then text k from to s)
joined-stand text kind.End from to low high s a b h = omega (arith, a, b)
joined-stand text kind.Ident from to low high s a b h = (a, b, h)
joined-stand text kind.SetIdent from to low high s a b h = (a, b, h)
joined-stand text kind.Builtin from to low high s a b h = (a, b, h)
joined-stand text kind.Text from to low high s a b h = (a, b, h)
joined-stand text (kind.Punct c) from to low high s a b h = (a, b, h)
joined-stand text kind.Assign from to low high s a b h = (a, b, h)

no-empty : (k : TokenKind) (n : ℕ) (bs : List ℕ) → IsToken k (take n bs) → 0 < n
no-empty k zero bs h = absurd h
no-empty k (suc n) bs h = omega arith

covered-stand : (text : List ℕ) (at high : ℕ) (bs : List ℕ) (s : Cut) → at + length bs ≤ high
    → Covers at bs s → Stand at high (named_tokens text s)
covered-stand text at high bs (cut_end e) le h = omega (arith, le)
covered-stand text at high bs (cut_fault e) le h = omega (arith, le)
covered-stand text at high bs (cut_token k from to s) le
    (m, n, gap, is_from, is_to, fits, longest, rest) =
    let some : 0 < n = no-empty k n (drop m bs) longest.0 in
    let left : length (drop m bs) ≡ length bs - m = length-drop m bs in
    let more : length (drop n (drop m bs)) ≡ length (drop m bs) - n = length-drop n (drop m bs) in
    let further : Stand to high (named_tokens text s) =
    covered-stand text to high (drop n (drop m bs)) s
    (omega (arith, some, left, more, fits, is_from, is_to, le)) rest in
    joined-stand text k from to at high (named_tokens text s) (omega (arith, is_from))
    (omega (arith, some, left, fits, is_from, le))
    (stand-lower to (from + 1) high (named_tokens text s) (omega (arith, some, is_to)) further)

tokens-stand : TokensCover → (bytes : List ℕ) → Stand 0 (length bytes) (token_stream bytes)
unfolding token_stream
tokens-stand law bytes =
    covered-stand bytes 0 (length bytes) bytes (lexed 0 bytes) (omega arith) (law bytes)

-- ---- required tokens

-- the required tokens that have places are at increasing places
abbrev Rising : ℕ → ℕ → List Requirement → Type 0
Rising low high [] = low ≤ high
Rising low high (provided b ∷ ws) = Rising low high ws
Rising low high (any t ∷ ws) = Rising low high ws
Rising low high (placed p t ∷ ws) = (low ≤ p) × (p < high) × Rising (p + 1) high ws

rising-lower : (low less high : ℕ) (ws : List Requirement) → less ≤ low → Rising low high ws
    → Rising less high ws
rising-lower low less high [] le h = omega (arith, le, h)
rising-lower low less high (provided b ∷ ws) le h = rising-lower low less high ws le h
rising-lower low less high (any t ∷ ws) le h = rising-lower low less high ws le h
rising-lower low less high (placed p t ∷ ws) le h = ((let a = h.0 in omega arith), h.1, h.2)

rising-room : (low high : ℕ) (ws : List Requirement) → Rising low high ws → low ≤ high
rising-room low high [] h = h
rising-room low high (provided b ∷ ws) h = rising-room low high ws h
rising-room low high (any t ∷ ws) h = rising-room low high ws h
rising-room low high (placed p t ∷ ws) h = let a = h.0 in let b = h.1 in omega (arith, a, b)

stand-room : (low high : ℕ) (s : Stream) → Stand low high s → low ≤ high
stand-room low high (end e) h = h
stand-room low high (no_token_at e) h = h
stand-room low high (token t p s) h = let a = h.0 in let b = h.1 in omega (arith, a, b)

taken : (low high : ℕ) (ws : List Requirement) (s e : Stream) → TakesTokens ws s e
    → Stand low high s → Rising low high ws
taken low high [] s e h a = stand-room low high s a
taken low high (provided b ∷ ws) s e h a = taken low high ws s e h.1 a
taken low high (any u ∷ ws) (end x) e h a = absurd h
taken low high (any u ∷ ws) (no_token_at x) e h a = absurd h
taken low high (any u ∷ ws) (token t p s) e h a =
    taken low high ws s e h.1 (stand-lower (p + 1) low high s (let b = a.0 in omega arith) a.2)
taken low high (placed q u ∷ ws) (end x) e h a = absurd h
taken low high (placed q u ∷ ws) (no_token_at x) e h a = absurd h
taken low high (placed q u ∷ ws) (token t p s) e h a =
    subst (λ (r : ℕ). (low ≤ r) × (r < high) × Rising (r + 1) high ws) h.1
    (a.0, a.1, taken (p + 1) high ws s e h.2 a.2)

-- if the places increase from a thing with this spelling on, they increase from what follows it on
record Skips (f : Spelling) : Type 0 where
  pub skip : (low high : ℕ) (k : List Requirement) → Rising low high (f k) → Rising low high k

record SkipsAll (fs : List Spelling) : Type 0 where
  pub first : (close low high : ℕ) (k : List Requirement) → Rising low high (listed fs close k)
      → Rising low high k
  pub further : (close low high : ℕ) (k : List Requirement)
      → Rising low high (more_listed fs close k) → Rising low high k

none-skips : SkipsAll []
none-skips = record { first = λ close low high k h. h; further = λ close low high k h. h }

more-skips : (f : Spelling) (fs : List Spelling) → Skips f → SkipsAll fs → SkipsAll (f ∷ fs)
more-skips f fs one all = record {
  first =
      λ close low high k h.
      all.further close low high k (one.skip low high (more_listed fs close k) h);
  further =
      λ close low high k h.
      all.further close low high k (one.skip low high (more_listed fs close k) h);
}

list-skips : {T : Type 0} (spell : T → Spelling) → ((t : T) → Skips (spell t)) → (ts : List T)
    → SkipsAll (map spell ts)
list-skips spell each [] = none-skips
list-skips spell each (t ∷ ts) =
    more-skips (spell t) (map spell ts) (each t) (list-skips spell each ts)

behind : (low high p : ℕ) (ws : List Requirement) → (low ≤ p) × (p < high) × Rising (p + 1) high ws
    → Rising low high ws
behind low high p ws h = rising-lower (p + 1) low high ws (let a = h.0 in omega arith) h.2

mutual
  sort-skips : (t : SortTree) → Skips (spell_sort t)
  sort-skips (sort_parameter at n) = record { skip = λ low high k h. behind low high at k h }
  sort-skips (sort_applied at n ss) = record {
    skip =
        λ low high k h. (sorts-skip ss).first 125 low high k
        (behind low high at (any (mark 123) ∷ listed (spell_sorts ss) 125 k) h);
  }

  sorts-skip : (ss : SortTrees) → SkipsAll (spell_sorts ss)
  sorts-skip no_sorts = none-skips
  sorts-skip (sort_then s ss) =
      more-skips (spell_sort s) (spell_sorts ss) (sort-skips s) (sorts-skip ss)

-- a sort moves on by a place, and each variable of a pattern by two
sort-further : (t : SortTree) (low high : ℕ) (k : List Requirement)
    → Rising low high (spell_sort t k) → Rising (low + 1) high k
sort-further (sort_parameter at n) low high k h =
    let a = h.0 in rising-lower (at + 1) (low + 1) high k (omega (arith, a)) h.2
sort-further (sort_applied at n ss) low high k h =
    let a = h.0 in
    rising-lower (at + 1) (low + 1) high k (omega (arith, a))
    ((sorts-skip ss).first 125 (at + 1) high k h.2)

record Counts (n : ℕ) (f : Spelling) : Type 0 where
  pub count : (low high : ℕ) (k : List Requirement) → Rising low high (f k)
      → Rising (low + n * 2) high k

record CountsAll (n : ℕ) (fs : List Spelling) : Type 0 where
  pub first : (close low high : ℕ) (k : List Requirement) → Rising low high (listed fs close k)
      → Rising (low + n * 2) high k
  pub further : (close low high : ℕ) (k : List Requirement)
      → Rising low high (more_listed fs close k) → Rising (low + n * 2) high k

skips-of : (n : ℕ) (f : Spelling) → Counts n f → Skips f
skips-of n f one = record {
  skip =
      λ low high k h. rising-lower (low + n * 2) low high k (omega arith) (one.count low high k h);
}

still : (low high : ℕ) (k : List Requirement) → Rising low high k → Rising (low + 0 * 2) high k
still low high k h = rising-lower low (low + 0 * 2) high k (omega arith) h

none-counts : CountsAll 0 []
none-counts = record {
  first = λ close low high k h. still low high k h;
  further = λ close low high k h. still low high k h;
}

more-counts : (n m : ℕ) (f : Spelling) (fs : List Spelling) → Counts n f → CountsAll m fs
    → CountsAll (n + m) (f ∷ fs)
more-counts n m f fs one all = record {
  first = λ close low high k h.
      rising-lower (low + n * 2 + m * 2) (low + (n + m) * 2) high k (omega arith)
      (all.further close (low + n * 2) high k (one.count low high (more_listed fs close k) h));
  further = λ close low high k h.
      rising-lower (low + n * 2 + m * 2) (low + (n + m) * 2) high k (omega arith)
      (all.further close (low + n * 2) high k (one.count low high (more_listed fs close k) h));
}

applied-counts : (n at : ℕ) (t : KoreToken) (ss : SortTrees) (ps : List Spelling) → CountsAll n ps
    → (low high : ℕ) (k : List Requirement) → Rising low high (spell_applied at t ss ps k)
    → Rising (low + n * 2) high k
applied-counts n at t ss ps all low high k h =
    all.first 41 low high k
    ((sorts-skip ss).first 125 low high (any (mark 40) ∷ listed ps 41 k)
    (behind low high at
    (any (mark 123) ∷ listed (spell_sorts ss) 125 (any (mark 40) ∷ listed ps 41 k)) h))

mutual
  pattern-counts : (b : Bool) (t : PatternTree) → Counts (variable_count t) (spell_pattern b t)
  pattern-counts b (element_variable at n s) = record {
    count =
        λ low high k h. let a = h.0 in
        rising-lower (at + 1 + 1) (low + 1 * 2) high k (omega (arith, a))
        (sort-further s (at + 1) high k h.2);
  }
  pattern-counts b (set_variable at n s) = record {
    count =
        λ low high k h. still low high k ((sort-skips s).skip low high k
        (behind low high at (any (mark 58) ∷ spell_sort s k) h));
  }
  pattern-counts b (string at t) = record {
    count =
        λ low high k h. still low high k (behind low high at k h);
  }
  pattern-counts b (symbol_applied at n ss ps) = record {
    count =
        applied-counts (variables_count ps) at (identifier n) ss (spell_patterns b ps)
        (patterns-count b ps);
  }
  pattern-counts b (connected at o ss ps) = record {
    count =
        applied-counts (variables_count ps) at (builtin (Some (Connective o))) ss
        (spell_patterns b ps) (patterns-count b ps);
  }
  pattern-counts b (binder_applied at o ss x p) = record {
    count = λ low high k h.
        let n = variable_count x in
        let m = variable_count p in
        rising-lower (low + n * 2 + m * 2) (low + (n + m) * 2) high k (omega arith)
        ((pattern-counts b p).count (low + n * 2) high (any (mark 41) ∷ k)
        ((pattern-counts b x).count low high (any (mark 44) ∷ spell_pattern b p (any (mark 41) ∷ k))
        ((sorts-skip ss).first 125 low high (any (mark 40)
        ∷ spell_pattern b x (any (mark 44) ∷ spell_pattern b p (any (mark 41) ∷ k)))
        (behind low high at (any (mark 123)
        ∷ listed (spell_sorts ss) 125 (any (mark 40)
        ∷ spell_pattern b x (any (mark 44) ∷ spell_pattern b p (any (mark 41) ∷ k))))
        h))));
  }
  pattern-counts b (value_written at s t place) = record {
    count = λ low high k h.
        still low high k
        (behind low high place (any (mark 41) ∷ k)
        ((sort-skips s).skip low high
        (any (mark 125) ∷ any (mark 40) ∷ placed place (string_token t) ∷ any (mark 41) ∷ k)
        (behind low high at (any (mark 123)
        ∷ spell_sort s (any (mark 125) ∷ any (mark 40) ∷ placed place (string_token t)
        ∷ any (mark 41) ∷ k)) h)));
  }
  pattern-counts b (folded at left p) = record {
    count = λ low high k h.
        (pattern-counts b p).count low high (any (mark 41) ∷ k)
        (behind low high at (any (mark 123) ∷ any (mark 125) ∷ any (mark 40)
        ∷ spell_pattern b p (any (mark 41) ∷ k)) h);
  }

  patterns-count : (b : Bool) (ts : PatternTrees)
      → CountsAll (variables_count ts) (spell_patterns b ts)
  patterns-count b no_patterns = none-counts
  patterns-count b (pattern_then t ts) =
      more-counts (variable_count t) (variables_count ts) (spell_pattern b t) (spell_patterns b ts)
      (pattern-counts b t) (patterns-count b ts)

pattern-skips : (b : Bool) (t : PatternTree) → Skips (spell_pattern b t)
pattern-skips b t = skips-of (variable_count t) (spell_pattern b t) (pattern-counts b t)

names-skip : (ns : List (List ℕ)) → Skips (spell_names ns)
names-skip ns = record {
  skip =
      λ low high k h.
      (list-skips spell_name (λ n. record { skip = λ low high k h. h }) ns).first 125
      low high k h;
}

attributes-skip : (ps : List PatternTree) → Skips (spell_attributes ps)
attributes-skip ps = record {
  skip =
      λ low high k h.
      (list-skips (spell_pattern true) (pattern-skips true) ps).first 93 low high k h;
}

sort-list-skips : (ss : List SortTree) → SkipsAll (map spell_sort ss)
sort-list-skips ss = list-skips spell_sort sort-skips ss

signature-skips : (args : List SortTree) (result : SortTree) → Skips (spell_signature args result)
signature-skips args result = record {
  skip =
      λ low high k h. (sort-skips result).skip low high k
      ((sort-list-skips args).first 41 low high (any (mark 58) ∷ spell_sort result k) h);
}

statement-skips : (d : AxiomDeclaration) → Skips (spell_statement d)
statement-skips d = record {
  skip = λ low high k h.
      (attributes-skip d.attributes).skip low high k
      ((pattern-skips false d.pattern).skip low high (spell_attributes d.attributes k)
      ((names-skip d.params).skip low high
      (spell_pattern false d.pattern (spell_attributes d.attributes k)) h));
}

alias-skips : (d : AliasDeclaration) (low high : ℕ) (k : List Requirement)
    → Rising low high (spell_declaration (alias_declaration d) k) → Rising low high k
alias-skips d low high k h =
    let body = any assign ∷ spell_pattern false d.body (spell_attributes d.attributes k) in
    let vars = any (mark 40) ∷ listed (map (spell_pattern false) d.vars) 41 body in
    let left =
    any (identifier (codes "where")) ∷ any (identifier d.left_name) ∷ any (mark 123)
    ∷ listed (map spell_sort d.left_sorts) 125 vars in
    let signature = spell_signature d.args d.result left in
    (attributes-skip d.attributes).skip low high k
    ((pattern-skips false d.body).skip low high (spell_attributes d.attributes k)
    ((list-skips (spell_pattern false) (pattern-skips false) d.vars).first 41 low high body
    ((sort-list-skips d.left_sorts).first 125 low high vars
    ((signature-skips d.args d.result).skip low high left
    ((names-skip d.params).skip low high signature
    (behind low high d.at (spell_names d.params signature) h))))))

-- ---- axioms

-- a statement leaves room for its variables
statement-room : (d : AxiomDeclaration) (low high : ℕ) (k : List Requirement)
    → Rising low high (spell_statement d k) → low + variable_count d.pattern * 2 ≤ high
statement-room d low high k h =
    rising-room (low + variable_count d.pattern * 2) high (spell_attributes d.attributes k)
    ((pattern-counts false d.pattern).count low high (spell_attributes d.attributes k)
    ((names-skip d.params).skip low high
    (spell_pattern false d.pattern (spell_attributes d.attributes k)) h))

-- the axioms are at increasing places, with room for their variables, and P holds after the last of
-- them
abbrev pub Rise : (ℕ → Type 0) → ℕ → ℕ → List AxiomDeclaration → Type 0
Rise P high low [] = P low
Rise P high low (a ∷ axioms) =
    (low ≤ a.at) × (a.at + variable_count a.pattern * 2 < high) × Rise P high (a.at + 1) axioms

rise-then : (P Q : ℕ → Type 0) (high low : ℕ) (axioms : List AxiomDeclaration)
    → ((n : ℕ) → P n → Q n) → Rise P high low axioms → Rise Q high low axioms
rise-then P Q high low [] into h = into low h
rise-then P Q high low (a ∷ axioms) into h =
    (h.0, h.1, rise-then P Q high (a.at + 1) axioms into h.2)

rise-append : (P : ℕ → Type 0) (high low : ℕ) (axioms bs : List AxiomDeclaration)
    → Rise (λ n. Rise P high n bs) high low axioms → Rise P high low (axioms ++ bs)
rise-append P high low [] bs h = h
rise-append P high low (a ∷ axioms) bs h = (h.0, h.1, rise-append P high (a.at + 1) axioms bs h.2)

-- P holds without the axioms too
rise-skip : (P : ℕ → Type 0) (high low : ℕ) (axioms : List AxiomDeclaration)
    → ((n m : ℕ) → m ≤ n → P n → P m) → Rise P high low axioms → P low
rise-skip P high low [] lower h = h
rise-skip P high low (a ∷ axioms) lower h =
    lower (a.at + 1) low (let b = h.0 in omega arith) (rise-skip P high (a.at + 1) axioms lower h.2)

declaration-rises : (d : Declaration) (ds : List Declaration) (low high : ℕ) (k : List Requirement)
    → ((n : ℕ) → Rising n high (in_order (map spell_declaration ds) k)
    → Rise (λ n. Rising n high k) high n (filter_map axiom_declared ds))
    → Rising low high (in_order (map spell_declaration (d ∷ ds)) k)
    → Rise (λ n. Rising n high k) high low (filter_map axiom_declared (d ∷ ds))
declaration-rises (import_declaration d) ds low high k rest h =
    let later = in_order (map spell_declaration ds) k in
    rest low ((attributes-skip d.attributes).skip low high later
    (behind low high d.at (spell_attributes d.attributes later) h))
declaration-rises (sort_declaration d) ds low high k rest h =
    let later = in_order (map spell_declaration ds) k in
    let attributes = spell_attributes d.attributes later in
    rest low ((attributes-skip d.attributes).skip low high later ((names-skip d.params).skip low
    high attributes (behind low high d.at (spell_names d.params attributes) h)))
declaration-rises (symbol_declaration d) ds low high k rest h =
    let later = in_order (map spell_declaration ds) k in
    let attributes = spell_attributes d.attributes later in
    let signature = spell_signature d.args d.result attributes in
    rest low ((attributes-skip d.attributes).skip low high later
    ((signature-skips d.args d.result).skip low high attributes ((names-skip d.params).skip low high
    signature (behind low high d.at (spell_names d.params signature) h))))
declaration-rises (alias_declaration d) ds low high k rest h =
    rest low (alias-skips d low high (in_order (map spell_declaration ds) k) h)
declaration-rises (axiom_declaration d) ds low high k rest h =
    let later = in_order (map spell_declaration ds) k in
    let room = statement-room d (d.at + 1) high later h.2 in
    (h.0, omega (arith, room), rest (d.at + 1) ((statement-skips d).skip (d.at + 1) high later h.2))
declaration-rises (claim_declaration d) ds low high k rest h =
    let later = in_order (map spell_declaration ds) k in
    rest low
    ((statement-skips d).skip low high later (behind low high d.at (spell_statement d later) h))

declarations-rise : (ds : List Declaration) (low high : ℕ) (k : List Requirement)
    → Rising low high (in_order (map spell_declaration ds) k)
    → Rise (λ n. Rising n high k) high low (filter_map axiom_declared ds)
declarations-rise [] low high k h = h
declarations-rise (d ∷ ds) low high k h =
    declaration-rises d ds low high k (λ n r. declarations-rise ds n high k r) h

-- what follows the declarations of a module
abbrev tail_of : ModuleTree → List Requirement → List Requirement
tail_of m k = any (identifier (codes "endmodule")) ∷ spell_attributes m.attributes k

-- the axioms that a module states
abbrev axioms_in : ModuleTree → List AxiomDeclaration
axioms_in m = filter_map axiom_declared m.declarations

abbrev axioms_among : List ModuleTree → List AxiomDeclaration
axioms_among ms = filter_map axiom_declared (flat_map (λ (m : ModuleTree). m.declarations) ms)

module-rises : (m : ModuleTree) (low high : ℕ) (k : List Requirement)
    → Rising low high (spell_module m k) → Rise (λ n. Rising n high k) high low (axioms_in m)
module-rises m low high k h =
    rise-then (λ n. Rising n high (tail_of m k)) (λ n. Rising n high k) high low (axioms_in m)
    (λ n r. (attributes-skip m.attributes).skip n high k r)
    (declarations-rise m.declarations low high (tail_of m k)
    (behind low high m.at (in_order (map spell_declaration m.declarations) (tail_of m k)) h))

counted-rises : (b : Bool) (m : ModuleTree) (ms : List ModuleTree) (low high : ℕ)
    (k : List Requirement)
    → ((n : ℕ) → Rising n high (in_order (map spell_module ms) k)
    → Rise (λ n. Rising n high k) high n (axioms_among (counted ms)))
    → Rising low high (spell_module m (in_order (map spell_module ms) k))
    → Rise (λ n. Rising n high k) high low (axioms_among (cond b (m ∷ counted ms) (counted ms)))
counted-rises true m ms low high k rest h =
    subst (Rise (λ n. Rising n high k) high low) (sym (filter_map-append axiom_declared
    m.declarations (flat_map (λ (n : ModuleTree). n.declarations) (counted ms))))
    (rise-append (λ n. Rising n high k) high low (axioms_in m) (axioms_among (counted ms))
    (rise-then (λ n. Rising n high (in_order (map spell_module ms) k))
    (λ n. Rise (λ x. Rising x high k) high n (axioms_among (counted ms))) high low (axioms_in m)
    rest
    (module-rises m low high (in_order (map spell_module ms) k) h)))
counted-rises false m ms low high k rest h =
    rest low
    (rise-skip (λ n. Rising n high (in_order (map spell_module ms) k)) high low (axioms_in m)
    (λ n less le r. rising-lower n less high (in_order (map spell_module ms) k) le r)
    (module-rises m low high (in_order (map spell_module ms) k) h))

modules-rise : (ms : List ModuleTree) (low high : ℕ) (k : List Requirement)
    → Rising low high (in_order (map spell_module ms) k)
    → Rise (λ n. Rising n high k) high low (axioms_among (counted ms))
modules-rise [] low high k h = h
modules-rise (m ∷ ms) low high k h =
    counted-rises (counts m ms (counted ms)) m ms low high k (λ n r. modules-rise ms n high k r) h

-- the axioms of a definition are at increasing places
pub axioms-rise : TokensCover → (bytes : List ℕ) (d : DefinitionTree) → ReadsDefinition bytes d
    → Rise (λ n. Unit {0}) (length bytes) 0 (axioms_of d)
axioms-rise law bytes d reads =
    let high = length bytes in
    let required : Rising 0 high (spell_definition d []) =
    taken 0 high (spell_definition d []) (token_stream bytes) (end reads.1.0) reads.1.1
    (tokens-stand law bytes) in
    rise-then (λ n. Rising n high []) (λ n. Unit {0}) high 0 (axioms_of d) (λ n r. tt)
    (modules-rise d.modules 0 high [] ((attributes-skip d.attributes).skip 0 high
    (in_order (map spell_module d.modules) []) required))

-- ---- what follows

abbrev one_if : Bool → ℕ
one_if b = cond b 1 0

abbrev is_at : ℕ → AxiomDeclaration → Bool
is_at p a = a.at == p

count-cons : (p : ℕ) (a : AxiomDeclaration) (axioms : List AxiomDeclaration)
    → count_by (is_at p) (a ∷ axioms) ≡ one_if (a.at == p) + count_by (is_at p) axioms
count-cons p a axioms = sum_by-cons (λ (x : AxiomDeclaration). one_if (is_at p x)) a axioms

at-most : (b : Bool) → one_if b ≤ 1
at-most true = omega arith
at-most false = omega arith

differs : (n p : ℕ) (t : Bool) → (n == p) ≡ t → (n ≡ p → ⊥) → one_if t ≡ 0
differs n p true e not_same = absurd (not_same (eqb-true n p e))
differs n p false e not_same = refl

pub none-below : (P : ℕ → Type 0) (high low p : ℕ) (axioms : List AxiomDeclaration) → p < low
    → Rise P high low axioms → count_by (is_at p) axioms ≡ 0
none-below P high low p [] lt h = refl
none-below P high low p (a ∷ axioms) lt h =
    let b = h.0 in
    let rest = none-below P high (a.at + 1) p axioms (omega (arith, b, lt)) h.2 in
    let here = differs a.at p (a.at == p) refl (λ e. omega (arith, b, lt, e)) in
    count-cons p a axioms ∙ omega (arith, here, rest)

once_by : (P : ℕ → Type 0) (high low p : ℕ) (a : AxiomDeclaration) (axioms : List AxiomDeclaration)
    (t : Bool) → (a.at == p) ≡ t → Rise P high low (a ∷ axioms) → count_by (is_at p) axioms ≤ 1
    → count_by (is_at p) (a ∷ axioms) ≤ 1
once_by P high low p a axioms true e h rest =
    let same : a.at ≡ p = eqb-true a.at p e in
    let none = none-below P high (a.at + 1) p axioms (omega (arith, same)) h.2 in
    let is = count-cons p a axioms in
    let here = at-most (a.at == p) in omega (arith, is, here, none)
once_by P high low p a axioms false e h rest =
    let is = count-cons p a axioms in
    let here : one_if (a.at == p) ≡ 0 = rw e refl in omega (arith, is, here, rest)

pub once : (P : ℕ → Type 0) (high low p : ℕ) (axioms : List AxiomDeclaration)
    → Rise P high low axioms → count_by (is_at p) axioms ≤ 1
once P high low p [] h = omega arith
once P high low p (a ∷ axioms) h =
    once_by P high low p a axioms (a.at == p) refl h (once P high (a.at + 1) p axioms h.2)

-- an axiom has fewer variables than half of the bytes
pub variables-few : (P : ℕ → Type 0) (high low : ℕ) (axioms : List AxiomDeclaration)
    (a : AxiomDeclaration) → Rise P high low axioms → Contains axioms a
    → variable_count a.pattern * 2 < high
variables-few P high low [] a h has = absurd (contains_none a has)
variables-few P high low (b ∷ axioms) a h has = elim (contains_cases b a axioms has) [
  | inl same ↦ let room =
      h.1 in subst (λ (c : AxiomDeclaration). variable_count c.pattern * 2 < high) same
      (omega (arith, room))
  | inr later ↦ variables-few P high (b.at + 1) axioms a h.2 later
]

pub few : (P : ℕ → Type 0) (high low : ℕ) (axioms : List AxiomDeclaration) → low ≤ high
    → Rise P high low axioms → length axioms + low ≤ high
few P high low [] le h = omega (arith, le)
few P high low (a ∷ axioms) le h =
    let b = h.0 in
    let c = h.1 in
    let rest = few P high (a.at + 1) axioms (omega (arith, c)) h.2 in omega (arith, b, rest)
