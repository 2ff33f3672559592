-- Entries with the names that their tokens have in the map.
use Rattle.std.proofs.Common.{rules, ◌≡◌, ℕ, zero, suc, Bool, true, false, List, [], ◌∷◌, ◌++◌, map}
use Rattle.std.proofs.Common.{slice_get, refl, ap, sym, ◌∙◌}
use Rattle.std.specs.Prelude.{Option, None, Some, bytes_eq, if◌then◌else◌}
use Rattle.std.proofs.lemmas.Slice.Eq.{bytes_eq-Decides}
use Rattle.mm_text.specs.Bytes.{Token}
use Rattle.mm_frame.specs.declared.entries.Entry.{Entry}
use Rattle.mm_frame.specs.declared.names.Name.{Name}
use Rattle.mm_frame.specs.KnownNames.{Renames}
use Rattle.mm_frame.specs.EntriesView.{entry_word, entry_name}

pub other-name : (old new : Token → Option Name) (token t : Token) (x y : Name) → old token ≡ None
    → Renames old token x new → old t ≡ Some y → new t ≡ Some y
other-name old new token t x y fresh names is = go (bytes_eq token t) refl
  where
    go : (b : Bool) → bytes_eq token t ≡ b → new t ≡ Some y
    go true e =
        let same : token ≡ t = (bytes_eq-Decides token t).0 e in
        let no : None ≡ Some y = sym fresh ∙ ap old same ∙ is in absurd (cc)
    go false e = names t ∙ (rw e is)

-- each entry has the name that the function returns for its token
abbrev pub Known : (Token → Option Name) → List Entry → Type 0
Known names es = map entry_name es ≡ map names (map entry_word es)

pub entry-known : (names : Token → Option Name) (es : List Entry) (i : ℕ) (e : Entry)
    → Known names es → slice_get es i ≡ Some e → names (entry_word e) ≡ Some e.name
entry-known names [] i e k is = search rules
entry-known names (x ∷ es) zero e k is = search rules
entry-known names (x ∷ es) (suc i) e k is = entry-known names es i e (search rules) (search rules)

-- a token that named nothing gets a name, and an entry at the end
pub entries-more : (old new : Token → Option Name) (e : Entry) (es : List Entry)
    → old (entry_word e) ≡ None
    → ((t : Token) → new t ≡ (if bytes_eq (entry_word e) t then Some e.name else old t))
    → Known old es → Known new (es ++ e ∷ [])
entries-more old new e [] none renames k =
    let same : bytes_eq (entry_word e) (entry_word e) ≡ true =
    (bytes_eq-Decides (entry_word e) (entry_word e)).1 refl in
    let named : new (entry_word e) ≡ Some e.name =
    renames (entry_word e)
    ∙ ap (λ (b : Bool). if b then Some e.name else old (entry_word e)) same in
    ap (λ (x : Option Name). x ∷ []) (sym named)
entries-more old new e (x ∷ es) none renames k =
    let here : Some x.name ≡ old (entry_word x) = search rules in
    let later : Known old es = search rules in
    let first : new (entry_word x) ≡ Some x.name =
    other-name old new (entry_word e) (entry_word x) e.name x.name none renames (sym here) in
    let rest : Known new (es ++ e ∷ []) = entries-more old new e es none renames later in
    ap (λ (y : Option Name). y ∷ map entry_name (es ++ e ∷ [])) (sym first)
    ∙ ap (λ (ys : List (Option Name)). new (entry_word x) ∷ ys) rest
