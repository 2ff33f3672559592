-- The frame of a row under a reading, and the row's scheme under what the reading assigns.
use Rattle.std.proofs.Common.{◌≡◌, ℕ, Bool, true, false, List, [], ◌∷◌, ◌++◌, map}
use Rattle.std.proofs.Common.{refl, sym, ap, ◌∙◌, subst, append-nil, suc, zero, arith}
use Rattle.std.specs.Prelude.{not, ◌&&◌, ◌||◌, Contains, bytes_eq}
use Rattle.std.specs.List.{list_any}
use Rattle.std.proofs.lemmas.Slice.Eq.{bytes_eq-Decides}
use Rattle.mm_text.specs.Bytes.{Token}
use Rattle.mm_database.specs.Frames.{Hypothesis, floating, essential, statement_of, types, Frame}
use Rattle.mm_header.specs.Header.{Row, header_rows}
use Rattle.mm_header.specs.HeaderRows.{premises, is_pair, IsFrameOfRow}
use Rattle.ml_pat.specs.Patterns.{Pattern, var, bot}
use Rattle.ml_pat.proofs.LeafLaws.{split_true, not_true}
use Rattle.mm_readings.specs.Letters.{Letter, object_letter, meta_letter, sort_letter}
use Rattle.mm_readings.specs.Letters.{Word, word_letter, says_pattern, says_sort, says_variable}
use Rattle.mm_readings.specs.Letters.{letter_of}
use Rattle.mm_readings.specs.Pieces.{Piece, pattern_piece, sort_piece, spell, spell_all}
use Rattle.mm_readings.specs.Pieces.{read}
use Rattle.mm_readings.specs.Holding.{Holds}
use Rattle.mm_readings.specs.Readings.{Reading, put, ShareNone, AllHold, IsSound}
use Rattle.mm_readings.proofs.ReadBack.{read-spell}
use Rattle.mm_readings.proofs.Meanings.{says, pattern_text, sort_text, object_text}
use Rattle.mm_readings.proofs.Schemes.{Assignment, all_under, text_under, texts_under}
use Rattle.mm_readings.proofs.Schemes.{texts-spell_all, Scheme, AreAllApart, AllSay, Follows}
use Rattle.mm_readings.proofs.HeaderSchemes.{header_schemes}
use Rattle.mm_readings.proofs.SchemeLaws.{Each, also, scheme_laws}
use Rattle.mm_readings.proofs.RowTokens.{token_of, fixed_letter, is_fixed, typed_as, is_known}
use Rattle.mm_readings.proofs.RowTokens.{are_known, pairs_known, all_known, typecodes}
use Rattle.mm_readings.proofs.RowTokens.{scheme_known, tokens_of, pair_tokens, RowTokens}
use Rattle.mm_readings.proofs.RowTokens.{row_tokens, scheme_tokens, frame_hypotheses, rows_known}
use Rattle.mm_readings.proofs.RowTokens.{same_tokens, all_rows_known}

-- ---- what a reading assigns to the variables of a scheme

abbrev first_pattern : List Piece → Pattern
first_pattern (pattern_piece p ∷ pieces) = p
first_pattern pieces = bot

abbrev variable_of : Pattern → ℕ
variable_of (var x) = x
variable_of p = 0

abbrev first_object : List Piece → ℕ
first_object pieces = variable_of (first_pattern pieces)

abbrev first_sort : List Piece → ℕ
first_sort (sort_piece s ∷ pieces) = s
first_sort pieces = 0

abbrev assigned : Reading → Assignment
assigned m = record {
  pattern = λ i. first_pattern (read (m (token_of (meta_letter i))));
  object = λ i. first_object (read (m (token_of (object_letter i))));
  sort = λ i. first_sort (read (m (token_of (sort_letter i))));
}

-- a reading that reads constants as such and under which the hypotheses hold
record IsRead (A : Pattern → Type 0) (number : Token → ℕ) (hs : List Hypothesis) (m : Reading) :
    Type 0 where
  constants : (t : Token) → list_any (types t) hs ≡ false → m t ≡ letter_of number t ∷ []
  hold : AllHold A m hs
  typecodes_known : are_known hs typecodes ≡ true

-- ---- what is known of a letter is so

fixed_text : (A : Pattern → Type 0) (number : Token → ℕ) (hs : List Hypothesis) (m : Reading)
    → IsRead A number hs m → (l : Letter) → (is_fixed l && not (list_any (types (token_of l)) hs))
    ≡ true → m (token_of l) ≡ l ∷ []
fixed_text A number hs m w l h =
    let b : (is_fixed l ≡ true) × (not (list_any (types (token_of l)) hs) ≡ true) =
    split_true (is_fixed l) (not (list_any (types (token_of l)) hs)) h in
    w.constants (token_of l) (not_true (list_any (types (token_of l)) hs) b.1)
    ∙ ap (λ (k : Letter). k ∷ []) (fixed_letter number l b.0)

typed_holds : (A : Pattern → Type 0) (m : Reading) (typecode variable : Token)
    (hs : List Hypothesis) → list_any (typed_as typecode variable) hs ≡ true → AllHold A m hs
    → Holds A (put m (typecode ∷ (variable ∷ [])))
typed_holds A m typecode variable [] h hold = absurd (cc)
typed_holds A m typecode variable (essential label statement ∷ hs) h hold =
    typed_holds A m typecode variable hs h hold.1
typed_holds A m typecode variable (floating label other typed ∷ hs) h hold =
    go (bytes_eq other typecode) (bytes_eq typed variable) refl refl h
    (λ k. typed_holds A m typecode variable hs k hold.1)
  where
    go : (a b : Bool) → bytes_eq other typecode ≡ a → bytes_eq typed variable ≡ b
        → ((a && b) || list_any (typed_as typecode variable) hs) ≡ true
        → (list_any (typed_as typecode variable) hs ≡ true
        → Holds A (put m (typecode ∷ (variable ∷ []))))
        → Holds A (put m (typecode ∷ (variable ∷ [])))
    go true true same is k rest =
        subst (λ (t : Token). Holds A (put m (t ∷ (variable ∷ []))))
        ((bytes_eq-Decides other typecode).0 same)
        (subst (λ (t : Token). Holds A (put m (other ∷ (t ∷ []))))
        ((bytes_eq-Decides typed variable).0 is) hold.0)
    go true false same is k rest = rest k
    go false b same is k rest = rest k

-- the text of a variable after the letter of its type
typed_text : (A : Pattern → Type 0) (number : Token → ℕ) (hs : List Hypothesis) (m : Reading)
    → IsRead A number hs m → (w : Word) (l : Letter) → is_known hs (word_letter w) ≡ true
    → list_any (typed_as (token_of (word_letter w)) (token_of l)) hs ≡ true
    → Holds A (word_letter w ∷ m (token_of l))
typed_text A number hs m is w l known typed =
    subst (Holds A)
    (ap (λ (xs : List Letter). xs ++ (m (token_of l) ++ []))
    (fixed_text A number hs m is (word_letter w) known)
    ∙ ap (λ (xs : List Letter). word_letter w ∷ xs) (append-nil (m (token_of l))))
    (typed_holds A m (token_of (word_letter w)) (token_of l) hs typed is.hold)

known_text : (A : Pattern → Type 0) (number : Token → ℕ) (hs : List Hypothesis) (m : Reading)
    → IsRead A number hs m → (l : Letter) → is_known hs l ≡ true
    → m (token_of l) ≡ text_under (assigned m) l
known_text A number hs m is (meta_letter i) h =
    let known : is_known hs (word_letter says_pattern) ≡ true =
    (split_true (is_known hs (word_letter says_pattern)) _ is.typecodes_known).0 in
    let w : (p : Pattern) × (m (token_of (meta_letter i)) ≡ spell p []) =
    pattern_text A (m (token_of (meta_letter i)))
    (typed_text A number hs m is says_pattern (meta_letter i) known h) in
    w.1 ∙ ap (λ (p : Pattern). spell p [])
    (sym (ap (λ (xs : List Letter). first_pattern (read xs)) w.1
    ∙ ap first_pattern (read-spell w.0 [])))
known_text A number hs m is (object_letter i) h =
    let known : is_known hs (word_letter says_variable) ≡ true =
    (split_true (is_known hs (word_letter says_variable)) _
    (split_true (is_known hs (word_letter says_sort)) _
    (split_true (is_known hs (word_letter says_pattern)) _ is.typecodes_known).1).1).0 in
    let w : (x : ℕ) × (m (token_of (object_letter i)) ≡ object_letter x ∷ []) =
    object_text A (m (token_of (object_letter i)))
    (typed_text A number hs m is says_variable (object_letter i) known h) in
    w.1 ∙ ap (λ (x : ℕ). object_letter x ∷ [])
    (sym (ap (λ (xs : List Letter). first_object (read xs)) w.1))
known_text A number hs m is (sort_letter i) h =
    let known : is_known hs (word_letter says_sort) ≡ true =
    (split_true (is_known hs (word_letter says_sort)) _
    (split_true (is_known hs (word_letter says_pattern)) _ is.typecodes_known).1).0 in
    let w : (s : ℕ) × (m (token_of (sort_letter i)) ≡ sort_letter s ∷ []) =
    sort_text A (m (token_of (sort_letter i)))
    (typed_text A number hs m is says_sort (sort_letter i) known h) in
    w.1 ∙ ap (λ (s : ℕ). sort_letter s ∷ [])
    (sym (ap (λ (xs : List Letter). first_sort (read xs)) w.1))
known_text A number hs m is l h = fixed_text A number hs m is l h

-- ---- texts and pairs of a scheme

texts_known : (A : Pattern → Type 0) (number : Token → ℕ) (hs : List Hypothesis) (m : Reading)
    → IsRead A number hs m → (letters : List Letter) → are_known hs letters ≡ true
    → put m (map token_of letters) ≡ texts_under (assigned m) letters
texts_known A number hs m is [] h = refl
texts_known A number hs m is (l ∷ letters) h =
    let b : (is_known hs l ≡ true) × (are_known hs letters ≡ true) =
    split_true (is_known hs l) (are_known hs letters) h in
    ap (λ (xs : List Letter). xs ++ put m (map token_of letters))
    (known_text A number hs m is l b.0)
    ∙ ap (λ (xs : List Letter). text_under (assigned m) l ++ xs)
    (texts_known A number hs m is letters b.1)

pieces_known : (A : Pattern → Type 0) (number : Token → ℕ) (hs : List Hypothesis) (m : Reading)
    → IsRead A number hs m → (pieces : List Piece) → are_known hs (spell_all pieces) ≡ true
    → put m (tokens_of pieces) ≡ spell_all (all_under (assigned m) pieces)
pieces_known A number hs m is pieces h =
    texts_known A number hs m is (spell_all pieces) h ∙ texts-spell_all (assigned m) pieces

all_say : (A : Pattern → Type 0) (number : Token → ℕ) (hs : List Hypothesis) (m : Reading)
    → IsRead A number hs m → (own : List Hypothesis) (schemes : List (List Piece))
    → map statement_of own ≡ map tokens_of schemes → all_known hs schemes ≡ true
    → AllHold A m own → AllSay A (assigned m) schemes
all_say A number hs m is own [] same h hold = tt
all_say A number hs m is [] (pieces ∷ schemes) same h hold = absurd (cc)
all_say A number hs m is (one ∷ own) (pieces ∷ schemes) same h hold =
    let b : (are_known hs (spell_all pieces) ≡ true) × (all_known hs schemes ≡ true) =
    split_true (are_known hs (spell_all pieces)) (all_known hs schemes) h in
    let first : statement_of one ≡ tokens_of pieces = cc in
    let rest : map statement_of own ≡ map tokens_of schemes = cc in (
      says A (put m (statement_of one)) (all_under (assigned m) pieces) hold.0
          (ap (put m) first ∙ pieces_known A number hs m is pieces b.0),
      all_say A number hs m is own schemes rest b.1 hold.1,
    )

or_right : (a b : Bool) → b ≡ true → (a || b) ≡ true
or_right true b h = refl
or_right false b h = h

is_pair-same : (a b : Token) → is_pair a b (a, b) ≡ true
is_pair-same a b =
    rw ((bytes_eq-Decides a a).1 refl, (bytes_eq-Decides b b).1 refl) refl

or_left : (a b : Bool) → a ≡ true → (a || b) ≡ true
or_left a b h = rw h refl

all_apart : (A : Pattern → Type 0) (number : Token → ℕ) (hs : List Hypothesis) (m : Reading)
    → IsRead A number hs m → (pairs : List (Letter × Letter)) → pairs_known hs pairs ≡ true
    → ((a b : Token) → list_any (is_pair a b) (map pair_tokens pairs) ≡ true
    → ShareNone (m a) (m b))
    → AreAllApart (assigned m) pairs
all_apart A number hs m is [] h apart = tt
all_apart A number hs m is ((k, l) ∷ pairs) h apart =
    let b : ((is_known hs k && is_known hs l) ≡ true) × (pairs_known hs pairs ≡ true) =
    split_true (is_known hs k && is_known hs l) (pairs_known hs pairs) h in
    let c : (is_known hs k ≡ true) × (is_known hs l ≡ true) =
    split_true (is_known hs k) (is_known hs l) b.0 in (
      subst (λ (xs : List Letter). ShareNone xs (text_under (assigned m) l))
          (known_text A number hs m is k c.0)
          (subst (λ (xs : List Letter). ShareNone (m (token_of k)) xs)
          (known_text A number hs m is l c.1)
          (apart (token_of k) (token_of l)
          (or_left (is_pair (token_of k) (token_of l) (token_of k, token_of l))
          (list_any (is_pair (token_of k) (token_of l)) (map pair_tokens pairs))
          (is_pair-same (token_of k) (token_of l))))),
      all_apart A number hs m is pairs b.1 (λ x y there. apart x y
          (or_right (is_pair x y (token_of k, token_of l))
          (list_any (is_pair x y) (map pair_tokens pairs)) there)),
    )

AllHold-right : (A : Pattern → Type 0) (m : Reading) (hs others : List Hypothesis)
    → AllHold A m (hs ++ others) → AllHold A m others
AllHold-right A m [] others h = h
AllHold-right A m (one ∷ hs) others h = AllHold-right A m hs others h.1

-- ---- a row whose scheme follows is sound

scheme_sound : (A : Pattern → Type 0) (number : Token → ℕ) (r : Row) (s : Scheme) (f : Frame)
    → row_tokens r ≡ scheme_tokens s → scheme_known (frame_hypotheses r) s ≡ true → Follows A s
    → IsFrameOfRow r f → IsSound A number f
scheme_sound A number r s f same known follows row m fit =
    let hs : List Hypothesis = frame_hypotheses r in
    let a : (are_known hs typecodes ≡ true) × ((pairs_known hs s.apart && (all_known hs s.hypotheses
    && are_known hs (spell_all s.statement))) ≡ true) = split_true (are_known hs typecodes) _ known
    in
    let b : (pairs_known hs s.apart ≡ true) × ((all_known hs s.hypotheses
    && are_known hs (spell_all s.statement)) ≡ true) = split_true (pairs_known hs s.apart) _ a.1 in
    let c : (all_known hs s.hypotheses ≡ true) × (are_known hs (spell_all s.statement) ≡ true) =
    split_true (all_known hs s.hypotheses) _ b.1 in
    let hold : AllHold A m (frame_hypotheses r) = subst (AllHold A m) row.hypotheses fit.hypotheses
    in
    let is : IsRead A number (frame_hypotheses r) m = record {
      constants = λ t none.
          fit.constants t (ap (list_any (types t)) row.hypotheses ∙ none);
      hold = hold;
      typecodes_known = a.0;
    } in (
      all_under (assigned m) s.statement,
      ap (put m) (row.statement ∙ ap (λ (w : RowTokens). w.0) same)
          ∙ pieces_known A number hs m is s.statement c.1,
      follows (assigned m)
          (all_apart A number hs m is s.apart b.0 (λ x y there. fit.apart x y
          (row.apart x y ∙ ap (λ (w : RowTokens). list_any (is_pair x y) w.2) same ∙ there)))
          (all_say A number hs m is (premises r) s.hypotheses (ap (λ (w : RowTokens). w.1) same) c.0
          (AllHold-right A m _ (premises r) hold)),
    )

-- ---- the table

row_sound : (A : Pattern → Type 0) (number : Token → ℕ) (rs : List Row) (ss : List Scheme)
    → map row_tokens rs ≡ map scheme_tokens ss → rows_known rs ss ≡ true → Each A ss
    → (r : Row) (f : Frame) → Contains rs r → IsFrameOfRow r f → IsSound A number f
row_sound A number [] ss same known h r f (k, below, at) row = absurd (omega arith)
row_sound A number (one ∷ rs) [] same known h r f (k, below, at) row = absurd (cc)
row_sound A number (one ∷ rs) (s ∷ ss) same known (also h hs) r f (zero, below, at) row =
    let first : row_tokens one ≡ scheme_tokens s = cc in
    let b : (scheme_known (frame_hypotheses one) s ≡ true) × (rows_known rs ss ≡ true) =
    split_true (scheme_known (frame_hypotheses one) s) (rows_known rs ss) known in
    scheme_sound A number one s f first b.0 h
    (subst (λ (x : Row). IsFrameOfRow x f) (sym at) row)
row_sound A number (one ∷ rs) (s ∷ ss) same known (also h hs) r f (suc k, below, at) row =
    let rest : map row_tokens rs ≡ map scheme_tokens ss = cc in
    let b : (scheme_known (frame_hypotheses one) s ≡ true) × (rows_known rs ss ≡ true) =
    split_true (scheme_known (frame_hypotheses one) s) (rows_known rs ss) known in
    row_sound A number rs ss rest b.1 hs r f (k, omega arith, at) row

-- each row of the header is sound, whatever the axioms are
pub rows_sound : (A : Pattern → Type 0) (number : Token → ℕ) (r : Row) (f : Frame)
    → Contains header_rows r → IsFrameOfRow r f → IsSound A number f
rows_sound A number r f there row =
    row_sound A number header_rows header_schemes same_tokens all_rows_known (scheme_laws A) r f
    there row
