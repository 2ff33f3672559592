-- Declarations after a text that has some claims.
use Rattle.std.proofs.Common.{◌≡◌, ℕ, ◌+◌, ◌<◌, ◌≤◌, ◌^◌, Bool, true, false, List, [], ◌∷◌, ◌++◌}
use Rattle.std.proofs.Common.{length, take, drop, zero, suc, map, refl, ap, ◌∙◌, sym, subst, arith}
use Rattle.std.proofs.Common.{append_assoc, append-nil, length-append, Some, None, slice_get}
use Rattle.std.specs.Prelude.{◌||◌, if◌then◌else◌, codes, bytes_eq}
use Rattle.std.proofs.lemmas.Slice.Eq.{bytes_eq-Decides}
use Rattle.mm_text.specs.Bytes.{Token}
use Rattle.mm_text.specs.Labels.{is_label}
use Rattle.mm_database.specs.Frames.{Hypothesis, essential, Scope, Frame, frame_of}
use Rattle.mm_database.specs.Database.{Context}
use Rattle.mm_database.specs.Proofs.{hypothesis_of}
use Rattle.mm_database.specs.Compressing.{all_compressed}
use Rattle.mm_database.proofs.Continued.{continued_leaves, appended_compressed}
use Rattle.mm_header.specs.HeaderContext.{header_context}
use Rattle.ml_pat.specs.Patterns.{Pattern}
use Rattle.ml_pat.specs.Named.{AreDistinct}
use Rattle.mm_proof.specs.Labels.{name_label, statement_label, premise_label}
use Rattle.ml_pat.specs.Leaves.{EachLeaf}
use Rattle.mm_proof.specs.Tokens.{own_naming}
use Rattle.mm_proof.specs.Derivations.{holds_text}
use Rattle.ml_pat.proofs.LeafLaws.{EachLeaf-implied, both_true}
use Rattle.mm_proof.proofs.AgreeLaws.{agreeing, text-agrees}
use Rattle.mm_claims.specs.Statements.{IsName, typecode_of, all_name_statements}
use Rattle.mm_claims.specs.Fitting.{AreNames}
use Rattle.mm_claims.specs.Variables.{Variable, object_variable, pattern_variable, variable_token}
use Rattle.mm_claims.specs.Variables.{variable_label}
use Rattle.mm_claims.specs.Blocks.{Claim, IsClaim, variable_float, premise_hypotheses, are_apart}
use Rattle.mm_claims.specs.Blocks.{open_frame}
use Rattle.mm_claims.specs.OverNames.{open_over, AreOpenOver}
use Rattle.mm_claims.specs.Claiming.{IsFree, AreClaims, HoldsClaims, FitsClaims}
use Rattle.mm_claims.specs.StatementLaws.{NamesFitClaims}
use Rattle.mm_claims.proofs.NameLaws.{name_label-is_label}
use Rattle.mm_claims.proofs.FittingLaws.{with_name, IsNew, name_holds, behind_names, closed_names}
use Rattle.mm_claims.proofs.FittingLaws.{adds_names, none_has, AreNames-front, AreNames-next}
use Rattle.mm_claims.proofs.FittingLaws.{name_of-front, take-drop, length-front}
use Rattle.mm_claims.proofs.StatedLaws.{name_no_active}
use Rattle.mm_claims.proofs.CompressedTexts.{each_compressed, names_compressed}
use Rattle.mm_claims.proofs.BoolLaws.{both_false, either_true, second_true}
use Rattle.mm_database.specs.StatementTexts.{written_statements}

-- names and one more name
names_last : (done : List Token) (t : Token) → AreNames done → IsName t → AreNames (done ++ t ∷ [])
names_last [] t h n = (n, tt)
names_last (u ∷ done) t h n = (h.0, names_last done t h.1 n)

-- what is over some names is over more names
more_leaves : (done : List Token) (t : Token) (vs : List Variable) (p : Pattern)
    → EachLeaf (open_over done vs) p → EachLeaf (open_over (done ++ t ∷ []) vs) p
more_leaves done t vs p h =
    EachLeaf-implied (open_over done vs) (open_over (done ++ t ∷ []) vs) p (record {
      sort =
          λ i k. (
            omega (arith, k.0, length-append done (t ∷ [])),
            ap typecode_of (name_of-front done (t ∷ []) i k.0) ∙ k.1,
          );
      constant =
          λ i k. (
            omega (arith, k.0, length-append done (t ∷ [])),
            ap typecode_of (name_of-front done (t ∷ []) i k.0) ∙ k.1,
          );
      object = λ x k. k;
      meta = λ i k. k;
    }) h

all_more_leaves : (done : List Token) (t : Token) (vs : List Variable) (ps : List Pattern)
    → AreOpenOver done vs ps → AreOpenOver (done ++ t ∷ []) vs ps
all_more_leaves done t vs [] h = tt
all_more_leaves done t vs (p ∷ ps) h =
    (more_leaves done t vs p h.0, all_more_leaves done t vs ps h.1)

named_claim : (done : List Token) (t : Token) (s : Claim) → IsClaim done s
    → IsClaim (done ++ t ∷ []) s
named_claim done t s w = record {
  once = w.once;
  numbered = w.numbered;
  stand = w.stand;
  over = all_more_leaves done t s.variables (s.conclusion ∷ s.hypotheses) w.over;
  few = w.few;
}

named_all : (done : List Token) (t : Token) (ss : List Claim) → AreClaims done ss
    → AreClaims (done ++ t ∷ []) ss
named_all done t [] h = tt
named_all done t (s ∷ ss) h = (named_claim done t s h.0, named_all done t ss h.1)

-- and its text stays the same
same_text : (done : List Token) (t : Token) (vs : List Variable) (p : Pattern)
    → EachLeaf (open_over done vs) p
    → holds_text (own_naming done) p ≡ holds_text (own_naming (done ++ t ∷ [])) p
same_text done t vs p h =
    ap (λ (ts : List Token). codes "|-" ∷ ts) (text-agrees (own_naming done)
    (own_naming (done ++ t ∷ [])) p (EachLeaf-implied (open_over done vs)
    (agreeing (own_naming done) (own_naming (done ++ t ∷ []))) p (record {
      sort = λ i k. sym (name_of-front done (t ∷ []) i k.0);
      constant = λ i k. sym (name_of-front done (t ∷ []) i k.0);
      object = λ x k. refl;
      meta = λ i k. refl;
    }) h))

same_premises : (done : List Token) (t : Token) (vs : List Variable) (k j : ℕ) (ps : List Pattern)
    → AreOpenOver done vs ps
    → premise_hypotheses done k j ps ≡ premise_hypotheses (done ++ t ∷ []) k j ps
same_premises done t vs k j [] h = refl
same_premises done t vs k j (p ∷ ps) h =
    ap (λ (e : List Token). essential (premise_label k j) e ∷ premise_hypotheses done k (j + 1) ps)
    (same_text done t vs p h.0)
    ∙ ap (λ (hs : List Hypothesis).
    essential (premise_label k j) (holds_text (own_naming (done ++ t ∷ [])) p) ∷ hs)
    (same_premises done t vs k (j + 1) ps h.1)

same_frame : (done : List Token) (t : Token) (k : ℕ) (s : Claim) → IsClaim done s
    → open_frame done k s ≡ open_frame (done ++ t ∷ []) k s
same_frame done t k s w =
    ap (λ (hs : List Hypothesis). let f : Frame =
    record {
      label = statement_label k;
      hypotheses = map (variable_float k) s.variables ++ hs;
      apart = are_apart s.variables;
      statement = holds_text (own_naming done) s.conclusion;
    } in
    f) (same_premises done t s.variables k 0 s.hypotheses w.over.1)
    ∙ ap (λ (e : List Token). let f : Frame =
    record {
      label = statement_label k;
      hypotheses =
          map (variable_float k) s.variables
          ++ premise_hypotheses (done ++ t ∷ []) k 0 s.hypotheses;
      apart = are_apart s.variables;
      statement = e;
    } in
    f) (same_text done t s.variables s.conclusion w.over.0)

pub claim_at_place : (declared : List Token) (claims : List Claim) (k : ℕ) (s : Claim)
    → AreClaims declared claims → slice_get claims k ≡ Some s → IsClaim declared s
claim_at_place declared [] k s all h = absurd (let z : ⊥ = cc in z)
claim_at_place declared (r ∷ claims) zero s all h =
    subst (λ (x : Claim). IsClaim declared x) (let same : r ≡ s = cc in same) all.0
claim_at_place declared (r ∷ claims) (suc k) s all h = claim_at_place declared claims k s all.1 h

variable_no_name : (k i : ℕ) (v : Variable) → bytes_eq (variable_label k v) (name_label i) ≡ false
variable_no_name k i (object_variable n) = refl
variable_no_name k i (pattern_variable n) = refl

token_no_name : (i : ℕ) (v : Variable) → bytes_eq (variable_token v) (name_label i) ≡ false
token_no_name i (object_variable n) = refl
token_no_name i (pattern_variable n) = refl

named_claims : (done : List Token) (claims : List Claim) (c : Context) (t : Token)
    → HoldsClaims done claims c → IsNew done t
    → HoldsClaims (done ++ t ∷ []) claims (with_name c (length done) t)
named_claims done claims c t w new = record {
  base = name_holds done c t w.base new;
  names = names_last done t w.names new.name;
  claimed = named_all done t claims w.claimed;
  frames =
      λ k s h. w.frames k s h
      ∙ ap Some (same_frame done t k s (claim_at_place done claims k s w.claimed h));
  free = λ k le lt. free_at k (w.free k le lt);
  no_label =
      λ v. both_false (c.labels (variable_token v))
      (bytes_eq (variable_token v) (name_label (length done))) (w.no_label v)
      (token_no_name (length done) v);
  spelt = λ label f h. spelt_at label f (bytes_eq label (name_label (length done))) refl h;
  labelled = λ label f h. labelled_at label f (bytes_eq label (name_label (length done))) refl h;
  no_hypothesis = λ label f h. other_at label f (bytes_eq label (name_label (length done))) refl h;
}
  where
    free_at : (k : ℕ) → IsFree c k → IsFree (with_name c (length done) t) k
    free_at k free = record {
      statement = both_false (c.labels (statement_label k)) false free.statement refl;
      variable =
          λ v h. both_false (c.labels (variable_label k v))
          (bytes_eq (variable_label k v) (name_label (length done))) (free.variable v h)
          (variable_no_name k (length done) v);
      premise = λ j h. both_false (c.labels (premise_label k j)) false (free.premise j h) refl;
    }

    spelt_at : (label : Token) (f : Frame) (b : Bool)
        → bytes_eq label (name_label (length done)) ≡ b
        → (if b then Some (frame_of c.scope (name_label (length done)) (typecode_of t ∷ (t ∷ [])))
        else c.frames label) ≡ Some f → is_label label ≡ true
    spelt_at label f true is h =
        ap is_label ((bytes_eq-Decides label (name_label (length done))).0 is)
        ∙ name_label-is_label (length done) new.few
    spelt_at label f false is h = w.spelt label f h

    labelled_at : (label : Token) (f : Frame) (b : Bool)
        → bytes_eq label (name_label (length done)) ≡ b
        → (if b then Some (frame_of c.scope (name_label (length done)) (typecode_of t ∷ (t ∷ [])))
        else c.frames label) ≡ Some f
        → (c.labels label || bytes_eq label (name_label (length done))) ≡ true
    labelled_at label f true is h =
        second_true (c.labels label) (bytes_eq label (name_label (length done))) is
    labelled_at label f false is h =
        either_true (c.labels label) (bytes_eq label (name_label (length done)))
        (w.labelled label f h)

    other_at : (label : Token) (f : Frame) (b : Bool)
        → bytes_eq label (name_label (length done)) ≡ b
        → (if b then Some (frame_of c.scope (name_label (length done)) (typecode_of t ∷ (t ∷ [])))
        else c.frames label) ≡ Some f → hypothesis_of c.scope.hypotheses label ≡ None
    other_at label f true is h = ap (λ (o : Scope). hypothesis_of o.hypotheses label) w.base.scope
        ∙ ap (hypothesis_of header_context.scope.hypotheses)
        ((bytes_eq-Decides label (name_label (length done))).0 is)
        ∙ name_no_active (length done)
    other_at label f false is h = w.no_hypothesis label f h

all_named_claims : (done more : List Token) (claims : List Claim) (c : Context)
    → HoldsClaims done claims c → AreNames (done ++ more) → AreDistinct (done ++ more)
    → length (done ++ more) < 2 ^ 64
    → HoldsClaims (done ++ more) claims (behind_names c (length done) more)
all_named_claims done [] claims c w names distinct few =
    subst (λ (ts : List Token). HoldsClaims ts claims c) (sym (append-nil done)) w
all_named_claims done (t ∷ more) claims c w names distinct few =
    let new : IsNew done t =
    record {
      name = AreNames-next done t more names;
      other = none_has done more t distinct;
      names = AreNames-front done (t ∷ more) names;
      few = omega (arith, few, length-append done (t ∷ more));
    } in
    let same : (done ++ t ∷ []) ++ more ≡ done ++ t ∷ more = append_assoc done (t ∷ []) more in
    let count : length (done ++ t ∷ []) ≡ length done + 1 = length-append done (t ∷ []) in
    let rest : HoldsClaims ((done ++ t ∷ []) ++ more) claims
    (behind_names (with_name c (length done) t) (length (done ++ t ∷ [])) more) =
    all_named_claims (done ++ t ∷ []) more claims (with_name c (length done) t)
    (named_claims done claims c t w new) (subst AreNames (sym same) names)
    (subst AreDistinct (sym same) distinct)
    (subst (λ (ts : List Token). length ts < 2 ^ 64) (sym same) few) in
    subst (λ (ts : List Token). HoldsClaims ts claims
    (behind_names (with_name c (length done) t) (length done + 1) more)) same (subst
    (λ (n : ℕ). HoldsClaims ((done ++ t ∷ []) ++ more) claims
    (behind_names (with_name c (length done) t) n more)) count rest)

later_names : (declared more : List Token) → AreNames (declared ++ more) → AreNames more
later_names [] more names = names
later_names (t ∷ declared) more names = later_names declared more names.1

pub names_fit_claims : NamesFitClaims
names_fit_claims declared more claims bytes (c, leaves, w, compressed) names distinct few = (
  behind_names c (length declared) more,
  continued_leaves bytes c (behind_names c (length declared) more)
      (all_name_statements (length declared) more) leaves
      (adds_names declared more c (length bytes) w.base leaves.closed names distinct few)
      (closed_names c (length declared) more ∙ leaves.closed),
  all_named_claims declared more claims c w names distinct few,
  appended_compressed bytes (all_name_statements (length declared) more) c
      (behind_names c (length declared) more) leaves
      (adds_names declared more c (length bytes) w.base leaves.closed names distinct few)
      ∙ both_true (all_compressed bytes)
      (each_compressed (all_name_statements (length declared) more)) compressed
      (names_compressed (length declared) more (later_names declared more names)
      (omega (arith, few, length-append declared more))),
)

-- the same is true of the names from a number on
pub declared_fits_claims : (names : List Token) (n : ℕ) → AreNames names → AreDistinct names
    → length names < 2 ^ 64 → n ≤ length names → (claims : List Claim) (bytes : List ℕ)
    → FitsClaims (take n names) claims bytes
    → FitsClaims names claims (bytes ++ written_statements (all_name_statements n (drop n names)))
declared_fits_claims names n all distinct few within claims bytes fits =
    let whole : take n names ++ drop n names ≡ names = take-drop n names in
    let count : length (take n names) ≡ n = length-front n names within in
    subst (λ (ts : List Token). FitsClaims ts claims
    (bytes ++ written_statements (all_name_statements n (drop n names)))) whole
    (subst (λ (m : ℕ). FitsClaims (take n names ++ drop n names) claims
    (bytes ++ written_statements (all_name_statements m (drop n names)))) count
    (names_fit_claims (take n names) (drop n names) claims bytes fits
    (subst AreNames (sym whole) all) (subst AreDistinct (sym whole) distinct)
    (subst (λ (ts : List Token). length ts < 2 ^ 64) (sym whole) few)))
