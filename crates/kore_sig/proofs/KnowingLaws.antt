-- Laws of what is known of all declarations.
use Rattle.std.proofs.Common.{◌≡◌, ℕ, Bool, true, false, not, List, [], ◌∷◌, ◌++◌, map, refl, ap}
use Rattle.std.proofs.Common.{sym, ◌∙◌, subst}
use Rattle.std.specs.Prelude.{None, is_some, is_none, filter_map, ◌||◌, ◌≢◌, if◌then◌else◌}
use Rattle.std.specs.List.{cons_option}
use Rattle.std.specs.Str.{bytes_eq}
use Rattle.std.proofs.lemmas.Slice.Eq.{bytes_eq-Decides}
use Rattle.std.proofs.lemmas.List.{map-append, append-nil}
use Rattle.std.proofs.lemmas.List.Elements.{filter_map-append}
use Rattle.rule_core.specs.Named.{number_of_name, is_among}
use Rattle.rule_core.specs.DistinctNames.{names_of, IsNoneOf, AreDistinct}
use Rattle.rule_core.specs.declared.signature.SortInfo.{SortInfo}
use Rattle.kore_text.specs.Trees.{Declaration, sort_declaration, SortDeclaration}
use Rattle.kore_sig.specs.Declarations.{sort_declared, symbol_declared, axiom_declared}
use Rattle.kore_sig.specs.Knowing.{entries_in, symbols_in, ac_in, IsSortTable}
use Rattle.kore_sig.specs.SortReferences.{sort_entry}
use Rattle.kore_sig.specs.SymbolKinds.{said_ac}
use Rattle.kore_sig.proofs.SetLaws.{knows_more, knows_same}

pub entries_push : (ds : List Declaration) (d : Declaration)
    → entries_in (ds ++ d ∷ []) ≡ entries_in ds ++ entries_in (d ∷ [])
entries_push ds d =
    ap (map sort_entry) (filter_map-append sort_declared ds (d ∷ []))
    ∙ map-append sort_entry (filter_map sort_declared ds) (filter_map sort_declared (d ∷ []))

pub symbols_push : (ds : List Declaration) (d : Declaration)
    → symbols_in (ds ++ d ∷ []) ≡ symbols_in ds ++ symbols_in (d ∷ [])
symbols_push ds d = filter_map-append symbol_declared ds (d ∷ [])

pub ac_push : (ds : List Declaration) (d : Declaration)
    → ac_in (ds ++ d ∷ []) ≡ ac_in ds ++ ac_in (d ∷ [])
ac_push ds d =
    ap (filter_map said_ac) (filter_map-append axiom_declared ds (d ∷ []))
    ∙ filter_map-append said_ac (filter_map axiom_declared ds)
    (filter_map axiom_declared (d ∷ []))

-- ---- distinct names

none_front : (name : List ℕ) (xs ys : List (List ℕ)) → IsNoneOf name (xs ++ ys) → IsNoneOf name xs
none_front name [] ys h = tt
none_front name (x ∷ xs) ys h = (h.0, none_front name xs ys h.1)

none_last : (name : List ℕ) (xs : List (List ℕ)) (n : List ℕ) → IsNoneOf name (xs ++ n ∷ [])
    → name ≢ n
none_last name [] n h = h.0
none_last name (x ∷ xs) n h = none_last name xs n h.1

pub distinct_front : (xs ys : List (List ℕ)) → AreDistinct (xs ++ ys) → AreDistinct xs
distinct_front [] ys h = tt
distinct_front (x ∷ xs) ys h = (none_front x xs ys h.0, distinct_front xs ys h.1)

differ : (b : Bool) (n x : List ℕ) (r : Bool) → bytes_eq n x ≡ b → x ≢ n → r ≡ false
    → (b || r) ≡ false
differ true n x r e other rest = absurd (other (sym ((bytes_eq-Decides n x).0 e)))
differ false n x r e other rest = rest

pub distinct_last : (xs : List (List ℕ)) (n : List ℕ) → AreDistinct (xs ++ n ∷ [])
    → is_among xs n ≡ false
distinct_last [] n h = refl
distinct_last (x ∷ xs) n h =
    differ (bytes_eq n x) n x (is_among xs n) refl (none_last x xs n h.0) (distinct_last xs n h.1)

-- ---- one more sort

at_fresh : (b : Bool) (old new es : List (List ℕ × SortInfo)) (e : List ℕ × SortInfo)
    → b ≡ is_none (number_of_name old e.0) → new ≡ (if b then old ++ e ∷ [] else old)
    → is_some (number_of_name old e.0) ≡ false → old ≡ es → new ≡ es ++ e ∷ []
at_fresh true old new es e fresh is none same = is ∙ ap (λ xs. xs ++ e ∷ []) same
at_fresh false old new es e fresh is none same =
    absurd (let never : ⊥ = cc (fresh, ap not none) in never)

pub sort_more : (ds : List Declaration) (d : SortDeclaration) (b : Bool)
    (old new : List (List ℕ × SortInfo)) → b ≡ is_none (number_of_name old d.name)
    → new ≡ (if b then old ++ sort_entry d ∷ [] else old) → IsSortTable ds old
    → IsSortTable (ds ++ sort_declaration d ∷ []) new
sort_more ds d b old new fresh is table =
    let names : names_of (entries_in ds) ++ d.name ∷ [] ≡ names_of
    (entries_in (ds ++ sort_declaration d ∷ [])) =
    sym (map-append (λ (e : List ℕ × SortInfo). e.0) (entries_in ds) (sort_entry d ∷ []))
    ∙ ap names_of (sym (entries_push ds (sort_declaration d))) in record {
      known =
          knows_same new new (names_of (entries_in ds) ++ d.name ∷ []) _ refl names
          (knows_more b old new d.name (sort_entry d).1 (names_of (entries_in ds)) fresh is
          table.known);
      same = λ distinct.
          let apart : AreDistinct (names_of (entries_in ds) ++ d.name ∷ []) =
          subst AreDistinct (sym names) distinct in
          at_fresh b old new (entries_in ds) (sort_entry d) fresh is
          (table.known d.name ∙ distinct_last (names_of (entries_in ds)) d.name apart)
          (table.same (distinct_front (names_of (entries_in ds)) (d.name ∷ []) apart))
          ∙ sym (entries_push ds (sort_declaration d));
    }

pub sort_table_at : (old new : List (List ℕ × SortInfo)) (ds es : List Declaration) → new ≡ old
    → es ≡ ds → IsSortTable ds old → IsSortTable es new
sort_table_at old new ds es is same table = record {
  known =
      knows_same old new (names_of (entries_in ds)) (names_of (entries_in es)) is
      (ap (λ xs. names_of (entries_in xs)) (sym same)) table.known;
  same =
      λ distinct. is
      ∙ table.same (subst (λ (xs : List Declaration). AreDistinct (names_of (entries_in xs)))
      same distinct) ∙ ap entries_in (sym same);
}

-- a declaration of something else adds no sort
pub sort_table_past : (ds : List Declaration) (d : Declaration) (old new : List (List ℕ × SortInfo))
    (es : List Declaration) → new ≡ old → es ≡ ds ++ d ∷ [] → sort_declared d ≡ None
    → IsSortTable ds old → IsSortTable es new
sort_table_past ds d old new es is next none table =
    let same : entries_in es ≡ entries_in ds =
    ap entries_in next ∙ entries_push ds d
    ∙ ap (λ o. entries_in ds ++ map sort_entry (cons_option o [])) none
    ∙ append-nil (entries_in ds) in
    record {
      known =
          knows_same old new (names_of (entries_in ds)) (names_of (entries_in es)) is
          (ap names_of (sym same)) table.known;
      same =
          λ distinct. is
          ∙ table.same (subst (λ (xs : List (List ℕ × SortInfo)). AreDistinct (names_of xs))
          same distinct) ∙ sym same;
    }
