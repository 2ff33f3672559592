-- A text that is written statement by statement.
use Rattle.std.proofs.Common.{◌≡◌, ℕ, ◌+◌, Bool, true, false, List, [], ◌∷◌, ◌++◌, length, refl, ap}
use Rattle.std.proofs.Common.{◌∙◌, sym, subst, arith}
use Rattle.std.specs.Prelude.{◌&&◌, if◌then◌else◌, Option, Some, None, IfSome, option_map}
use Rattle.std.specs.List.{list_all}
use Rattle.mm_text.specs.Bytes.{Token, is_white}
use Rattle.mm_text.specs.Statements.{is_whole, Statements, no_statement, unended, bad_statement}
use Rattle.mm_text.specs.Statements.{next_statement, statement, statements_from, statements_of}
use Rattle.mm_text.specs.TextLaws.{end_well, followed_by}
use Rattle.mm_text.proofs.Appending.{appended_text}
use Rattle.mm_text.proofs.Writing.{written_statement}
use Rattle.mm_database.specs.Forms.{Form, asserts, proves, plain, form_of}
use Rattle.mm_database.specs.Frames.{frame_of}
use Rattle.mm_database.specs.Database.{Context, empty_context, context_after}
use Rattle.mm_database.specs.Steps.{Step}
use Rattle.mm_database.specs.ProofText.{mandatory_labels}
use Rattle.mm_database.specs.Compressing.{is_compressed, are_compressed}
use Rattle.mm_database.specs.Validity.{IsProved, Task, task, theorem_task, form_fault, is_typed}
use Rattle.mm_database.specs.FrameLaws.{Adds}
use Rattle.mm_database.specs.Writing.{LeavesIsValid, ContinuedLeaves, AxiomIsFine, TheoremIsFine}
use Rattle.mm_database.specs.Writing.{AppendedCompressed}
use Rattle.mm_database.specs.CleanTokens.{are_clean}
use Rattle.mm_database.proofs.Compressed.{HasSteps, text_has_steps, steps_prove}
use Rattle.mm_database.proofs.Compressed.{proof_text_is_plain}
use Rattle.mm_database.proofs.Texts.{appended_is_fine, written_is_fine, end_well-HaveNoFault}
use Rattle.mm_database.proofs.WrittenForms.{plain_tokens_say, proof_tokens_say}
use Rattle.mm_text.specs.Written.{ends_white, white_after, written}
use Rattle.mm_database.specs.StatementTexts.{written_statements, plain_tokens, proof_tokens}

-- white space at the end

ends_white-append : (xs ys : List ℕ) → ends_white xs ≡ true → ends_white ys ≡ true
    → ends_white (xs ++ ys) ≡ true
ends_white-append [] ys h k = k
ends_white-append (b ∷ []) [] h k = h
ends_white-append (b ∷ []) (c ∷ ys) h k = k
ends_white-append (b ∷ (c ∷ xs)) ys h k = ends_white-append (c ∷ xs) ys h k

ends_white-last : (xs : List ℕ) (w : ℕ) → is_white w ≡ true → ends_white (xs ++ w ∷ []) ≡ true
ends_white-last [] w h = h
ends_white-last (b ∷ []) w h = h
ends_white-last (b ∷ (c ∷ xs)) w h = ends_white-last (c ∷ xs) w h

behind_is_white : (token : Token) → is_white (white_after token) ≡ true
behind_is_white token = go (is_whole token)
  where
    go : (b : Bool) → is_white (if b then 10 else 32) ≡ true
    go true = refl
    go false = refl

ends_white-written : (tokens : List Token) → ends_white (written tokens) ≡ true
ends_white-written [] = refl
ends_white-written (t ∷ tokens) =
    ends_white-append (t ++ white_after t ∷ []) (written tokens)
    (ends_white-last t (white_after t) (behind_is_white t)) (ends_white-written tokens)

ends_white-statements : (statements : List (List Token))
    → ends_white (written_statements statements) ≡ true
ends_white-statements [] = refl
ends_white-statements (tokens ∷ statements) =
    ends_white-append (written tokens) (written_statements statements) (ends_white-written tokens)
    (ends_white-statements statements)

pub leaves_is_valid : LeavesIsValid
leaves_is_valid bytes c w = record { left = c; fine = w.fine; closed = w.closed }

pub continued_leaves : ContinuedLeaves
continued_leaves bytes c left statements w adds closed = record {
  white =
      ends_white-append bytes (written_statements statements) w.white
      (ends_white-statements statements);
  fine =
      appended_is_fine bytes (written_statements statements) c left w.white w.fine
      (written_is_fine c (length bytes) statements left adds);
  closed = closed;
}

-- a `$a`

pub axiom_is_fine : AxiomIsFine
axiom_is_fine c label typecode symbols w =
    let said : form_of (plain_tokens (label ∷ []) asserts (typecode ∷ symbols)) ≡ Some
    (plain (label ∷ []) asserts (typecode ∷ symbols) []) =
    plain_tokens_say (label ∷ []) asserts typecode symbols w.clean_label w.clean refl in
    let typed : list_all (is_typed c) (typecode ∷ symbols) ≡ true = w.typed in
    let well : form_fault c (Some (plain (label ∷ []) asserts (typecode ∷ symbols) [])) ≡ None =
    rw (w.typed, w.constant, w.new) refl in
    record {
      form = ap (form_fault c) said ∙ well;
      proof = subst (λ (o : Option Form). IfSome (task c o) (IsProved c)) (sym said) tt;
    }

-- a `$p`

pub theorem_is_fine : TheoremIsFine
theorem_is_fine c label typecode symbols tree proof w proves_it spelt text =
    let clean : are_clean proof ≡ true =
    (proof_text_is_plain (mandatory_labels (frame_of c.scope label (typecode ∷ symbols))) tree proof
    spelt text).1 in
    let said : form_of (proof_tokens (label ∷ []) (typecode ∷ symbols) proof) ≡ Some
    (plain (label ∷ []) proves (typecode ∷ symbols) proof) =
    proof_tokens_say (label ∷ []) (typecode ∷ symbols) proof w.clean_label w.clean clean in
    let has : HasSteps c (frame_of c.scope label (typecode ∷ symbols)) tree proof =
    text_has_steps c (frame_of c.scope label (typecode ∷ symbols)) tree (typecode ∷ symbols) proof
    proves_it spelt text in
    let done : theorem_task c (label ∷ []) (typecode ∷ symbols) proof ≡ Some
    (record { conclusion = typecode ∷ symbols; steps = has.steps }) =
    ap (λ (o : Option (List (Step Token))). option_map (λ (ss : List (Step Token)).
    let t : Task = record { conclusion = typecode ∷ symbols; steps = ss } in t) o) has.means in
    let well : form_fault c (Some (plain (label ∷ []) proves (typecode ∷ symbols) proof)) ≡ None =
    rw (w.typed, w.constant, w.new, done) refl in
    record {
      form = ap (form_fault c) said ∙ well;
      proof =
          subst (λ (o : Option Form). IfSome (task c o) (IsProved c)) (sym said)
          (subst (λ (o : Option Task). IfSome o (IsProved c)) (sym done)
          (steps_prove (typecode ∷ symbols) proves_it has));
    }

-- compressed proofs

and_assoc : (a b c : Bool) → ((a && b) && c) ≡ (a && (b && c))
and_assoc true b c = refl
and_assoc false b c = refl

are_compressed-followed : (statements more : Statements) → end_well statements ≡ true
    → are_compressed (followed_by statements more)
    ≡ (are_compressed statements && are_compressed more)
are_compressed-followed no_statement more h = refl
are_compressed-followed (unended at) more h = absurd (cc)
are_compressed-followed (bad_statement f) more h = absurd (cc)
are_compressed-followed (next_statement s statements) more h =
    ap (λ b. is_compressed (form_of s.tokens) && b) (are_compressed-followed statements more h)
    ∙ sym (and_assoc (is_compressed (form_of s.tokens)) (are_compressed statements)
    (are_compressed more))

written_compressed : (c : Context) (at : ℕ) (statements : List (List Token)) (left : Context)
    → Adds c at statements left
    → are_compressed (statements_from at (written_statements statements))
    ≡ list_all (λ ts. is_compressed (form_of ts)) statements
written_compressed c at [] left same = refl
written_compressed c at (tokens ∷ statements) left (plain_ones, one, fine, behind) =
    ap are_compressed (written_statement at tokens (written_statements statements) plain_ones one)
    ∙ ap (λ b. is_compressed (form_of tokens) && b)
    (written_compressed (context_after c (statement at tokens)) (at + length (written tokens))
    statements left behind)

pub appended_compressed : AppendedCompressed
appended_compressed text statements c left w adds =
    let well : end_well (statements_of text) ≡ true =
    end_well-HaveNoFault empty_context c (statements_of text) w.fine in
    let place : 0 + length text ≡ length text = omega arith in
    ap are_compressed (appended_text 0 text (written_statements statements) w.white well)
    ∙ are_compressed-followed (statements_of text)
    (statements_from (0 + length text) (written_statements statements)) well
    ∙ ap (λ (n : ℕ). are_compressed (statements_of text)
    && are_compressed (statements_from n (written_statements statements))) place
    ∙ ap (λ b. are_compressed (statements_of text) && b)
    (written_compressed c (length text) statements left adds)
