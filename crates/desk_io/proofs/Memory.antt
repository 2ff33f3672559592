-- A file in memory: its index, and reading on.
use Rattle.std.proofs.Common.{◌≡◌, ℕ, zero, suc, ◌+◌, ◌-◌, ◌<◌, ◌≤◌, min, Bool, true, false, List}
use Rattle.std.proofs.Common.{[], ◌∷◌, ◌++◌, length, take, drop, get_or, Option, Some, None, refl}
use Rattle.std.proofs.Common.{sym, ◌∙◌, ap, arith, nat_eq, ◌≢◌, if◌then◌else◌, String, string_bytes}
use Rattle.std.proofs.Common.{vec_len, length-drop, add-one}
use Rattle.std.proofs.lemmas.List.{take-append-drop, take_rest, drop-drop, drop-take, length-take}
use Rattle.std.proofs.lemmas.List.{get_or-map, length-map, nil_from_length, drop-append-le}
use Rattle.std.proofs.lemmas.List.{take-append-le}
use Rattle.std.specs.List.{position, position_from}
use Rattle.std.proofs.lemmas.Iterator.Adapters.{position_from-zero}
use Rattle.std.specs.Cmp.Lexicographic.{pointwise, bytes_decides}
use Rattle.std.specs.Global.{Vec, Global}
use Rattle.desk_io.specs.Told.{Told, file_of}
use Rattle.desk_io.specs.Changes.{PutsFile, Creates, Writes}
use Rattle.desk_io.specs.Memory.{named_bytes, content_of, passed_of, end_of, unread_part}
use Rattle.desk_io.specs.Memory.{created_name}
use Rattle.desk_io.specs.MemoryChanges.{without, grown}
use Rattle.desk_io.specs.FirstFile.{same_name}
use Rattle.desk_io.specs.declared.mem_desk.Place.{Place}

-- the index of the first file of that name, if there is one
abbrev pub StandsAt : List (List ℕ × List ℕ) → List ℕ → Option ℕ → Type 0
StandsAt files name None = file_of files name ≡ None
StandsAt files name (Some i) =
    (i < length files) × (file_of files name ≡ Some (get_or files i ([], [])).1)

-- the same, with the files numbered from `low`
StandsFrom : List (List ℕ × List ℕ) → List ℕ → ℕ → Option ℕ → Type 0
StandsFrom files name low None = file_of files name ≡ None
StandsFrom files name low (Some i) = (k : ℕ) × (i ≡ low + k) × (k < length files)
    × (file_of files name ≡ Some (get_or files k ([], [])).1)

later : (file : List ℕ × List ℕ) (files : List (List ℕ × List ℕ)) (name : List ℕ) (low : ℕ)
    (at : Option ℕ) → pointwise nat_eq file.0 name ≡ false → StandsFrom files name (low + 1) at
    → StandsFrom (file ∷ files) name low at
unfolding StandsFrom
later file files name low None e h = rw e h
later file files name low (Some i) e h = (suc h.0, omega (arith, h.1), omega (arith, h.2), rw e h.3)

stands_from : (files : List (String Global × Vec ℕ)) (name : List ℕ) (low : ℕ)
    → StandsFrom (named_bytes files) name low (position_from
    (λ (f : String Global × Vec ℕ). pointwise nat_eq (string_bytes f.0) name) low files)
unfolding StandsFrom
stands_from [] name low = refl
stands_from (file ∷ files) name low =
    by (stands_from files name (low + 1)) (pointwise nat_eq (string_bytes file.0) name) refl
  where
    by : StandsFrom (named_bytes files) name (low + 1) (position_from
        (λ (f : String Global × Vec ℕ). pointwise nat_eq (string_bytes f.0) name) (low + 1)
        files) → (same : Bool) → pointwise nat_eq (string_bytes file.0) name ≡ same
        → StandsFrom (named_bytes (file ∷ files)) name low (position_from
        (λ (f : String Global × Vec ℕ). pointwise nat_eq (string_bytes f.0) name) low
        (file ∷ files))
    by ih true e =
        let first : file_of (named_bytes (file ∷ files)) name ≡ Some file.1.items = rw e refl in
        rw e (0, omega arith, omega arith, first)
    by ih false e =
        rw e (later (string_bytes file.0, file.1.items) (named_bytes files) name low _ e ih)

at_zero : (files : List (List ℕ × List ℕ)) (name : List ℕ) (at : Option ℕ)
    → StandsFrom files name 0 at → StandsAt files name at
unfolding StandsFrom
at_zero files name None h = h
at_zero files name (Some i) h =
    let e : h.0 ≡ i = omega (arith, h.1) in
    (omega (arith, h.2), h.3 ∙ ap (λ k. Some (get_or files k ([], [])).1) e)

-- what the search for a name says
pub stands_at : (files : List (String Global × Vec ℕ)) (name : List ℕ) (at : Option ℕ)
    → at ≡ position (λ (f : String Global × Vec ℕ). pointwise nat_eq (string_bytes f.0) name) files
    → StandsAt (named_bytes files) name at
stands_at files name at found =
    let from : at ≡ position_from
    (λ (f : String Global × Vec ℕ). pointwise nat_eq (string_bytes f.0) name) 0 files =
    found
    ∙ position_from-zero
    (λ (f : String Global × Vec ℕ). pointwise nat_eq (string_bytes f.0) name) files in
    at_zero (named_bytes files) name at (rw from (stands_from files name 0))

length-named : (files : List (String Global × Vec ℕ)) → length (named_bytes files) ≡ length files
length-named files = length-map files (λ (f : String Global × Vec ℕ). (string_bytes f.0, f.1.items))

-- the content of the file at an index
pub content_at : (files : List (String Global × Vec ℕ)) (i : ℕ) (file : String Global × Vec ℕ)
    → file ≡ get_or files i file → i < length files
    → file.1.items ≡ (get_or (named_bytes files) i ([], [])).1
content_at files i file read h =
    let e : get_or (named_bytes files) i ([], []) ≡
    (string_bytes (get_or files i file).0, (get_or files i file).1.items) =
    get_or-map (λ (f : String Global × Vec ℕ). (string_bytes f.0, f.1.items)) files i file
    ([], []) h in
    ap (λ (f : String Global × Vec ℕ). f.1.items) read ∙ sym (ap (λ (p : List ℕ × List ℕ). p.1) e)

-- a file is opened, and all of it is unread
pub unread_part-opened : (files : List (String Global × Vec ℕ)) (i end : ℕ)
    (file : String Global × Vec ℕ) → file ≡ get_or files i file → i < length (named_bytes files)
    → end ≡ vec_len file.1
    → unread_part (named_bytes files) (Some (record { file = i; passed = 0; end = end }))
    ≡ (get_or (named_bytes files) i ([], [])).1
unread_part-opened files i end file read h count =
    let content : List ℕ = (get_or (named_bytes files) i ([], [])).1 in
    let same : file.1.items ≡ content =
    content_at files i file read (omega (arith, h, length-named files)) in
    let long : end ≡ length content = omega (arith, count, ap length same) in
    ap (λ k. take (k - 0) content) long ∙ take_rest content 0

-- a read of n bytes from the place
pub unread_part-read : (files : List (List ℕ × List ℕ)) (reading : Option Place) (place : Place)
    (n most room : ℕ) (content buf : List ℕ) → reading ≡ Some place
    → content ≡ content_of files (Some place)
    → n ≡ min most (min (length (take (place.end - place.passed) (drop place.passed content))) room)
    → take n buf ≡ take n (take (place.end - place.passed) (drop place.passed content))
    → unread_part files reading
    ≡ take n buf
    ++ take (place.end - (place.passed + n))
    (drop (place.passed + n) (content_of files (Some place)))
unread_part-read files reading place n most room content buf opened same count copied =
    let unread : List ℕ = take (place.end - place.passed) (drop place.passed content) in
    let fits : n ≤ place.end - place.passed =
    omega (arith, count, length-take (place.end - place.passed) (drop place.passed content)) in
    let as_sum : place.end - place.passed ≡ n + (place.end - (place.passed + n)) =
    omega (arith, fits) in
    let rest : drop n unread ≡ take (place.end - (place.passed + n))
    (drop (place.passed + n) content) =
    ap (λ k. drop n (take k (drop place.passed content))) as_sum
    ∙ drop-take n (place.end - (place.passed + n)) (drop place.passed content)
    ∙ ap (λ xs. take (place.end - (place.passed + n)) xs) (drop-drop n place.passed content) in
    rw (opened, ← same) (sym (take-append-drop n unread)
    ∙ ap (λ xs. xs ++ drop n unread) (sym copied) ∙ ap (λ xs. take n buf ++ xs) rest)

-- a read does not pass the end that the file had when it was opened
pub passed-read : (place : Place) (n most room : ℕ) (content : List ℕ) → place.passed ≤ place.end
    → n ≡ min most (min (length (take (place.end - place.passed) (drop place.passed content))) room)
    → place.passed + n ≤ place.end
passed-read place n most room content within count =
    omega (arith, within, count, length-take (place.end - place.passed) (drop place.passed content))

-- a read of no byte
pub unread_part-end : (files : List (List ℕ × List ℕ)) (reading : Option Place) (place : Place)
    (n most room : ℕ) (content : List ℕ) → reading ≡ Some place
    → content ≡ content_of files (Some place)
    → n ≡ min most (min (length (take (place.end - place.passed) (drop place.passed content))) room)
    → 0 < most → 0 < room → n ≡ 0 → unread_part files reading ≡ []
unread_part-end files reading place n most room content opened same count some space none =
    rw (opened, ← same) (nil_from_length
    (take (place.end - place.passed) (drop place.passed content))
    (omega (arith, count, none, some, space)))

-- the file that a search found
pub found_content : (files : List (String Global × Vec ℕ)) (name : List ℕ) (i : ℕ)
    (file : String Global × Vec ℕ) → StandsAt (named_bytes files) name (Some i)
    → file ≡ get_or files i file → Some file.1.items ≡ file_of (named_bytes files) name
found_content files name i file h read =
    ap (λ xs. Some xs) (content_at files i file read (omega (arith, h.0, length-named files)))
    ∙ sym h.1

other_name : (name other : List ℕ) → other ≢ name → pointwise nat_eq name other ≡ false
other_name name other differ = by (pointwise nat_eq name other) refl
  where
    by : (same : Bool) → pointwise nat_eq name other ≡ same → pointwise nat_eq name other ≡ false
    by true e = absurd (differ (sym ((bytes_decides name other).0 e)))
    by false e = e

file_of-without : (files : List (List ℕ × List ℕ)) (name other : List ℕ) → other ≢ name
    → file_of (without files name) other ≡ file_of files other
file_of-without [] name other differ = refl
file_of-without (file ∷ files) name other differ =
    by (file_of-without files name other differ) (pointwise nat_eq file.0 name) refl
  where
    by : file_of (without files name) other ≡ file_of files other → (same : Bool)
        → pointwise nat_eq file.0 name ≡ same
        → file_of (without (file ∷ files) name) other ≡ file_of (file ∷ files) other
    by ih true e =
        let named : pointwise nat_eq file.0 other ≡ false =
        rw ((bytes_decides file.0 name).0 e) (other_name name other differ) in
        rw (e, named) refl
    by ih false e =
        rw e (ap (λ (rest : Option (List ℕ)).
        if pointwise nat_eq file.0 other then Some file.1 else rest) ih)

-- an empty file is put before the others
pub puts_empty : (files : List (List ℕ × List ℕ)) (name : List ℕ)
    → PutsFile files ((name, []) ∷ without files name) name []
puts_empty files name = (
  rw (same_name name) refl,
  λ other differ. rw (other_name name other differ) (file_of-without files name other differ),
)

-- the first file grows
pub puts_grown : (name content bytes : List ℕ) (files : List (List ℕ × List ℕ))
    → PutsFile ((name, content) ∷ files) ((name, content ++ bytes) ∷ files) name (content ++ bytes)
puts_grown name content bytes files =
    (rw (same_name name) refl, λ other differ. rw (other_name name other differ) refl)

-- a file is created and becomes the first one
pub creates_first : (files files' : List (List ℕ × List ℕ)) (unread name : List ℕ)
    (created : Option (List ℕ)) → files' ≡ (name, []) ∷ without files name
    → Creates (Some (record { files = files; unread = unread; created = created }))
    (Some (record { files = files'; unread = []; created = created_name true files' })) name
creates_first files files' unread name created e = rw e (_, puts_empty files name, refl)

-- the first file has a name, if there is one
pub first_named : (files : Vec (String Global × Vec ℕ)) → 0 < vec_len files
    → 0 < length (named_bytes files.items)
first_named files some = omega (arith, some, length-named files.items)

grown_at : (file : List ℕ × List ℕ) (files : List (List ℕ × List ℕ)) (bytes : List ℕ)
    (k passed end : ℕ) → passed ≤ end → end ≤ length (get_or (file ∷ files) k ([], [])).1
    → take (end - passed) (drop passed (get_or ((file.0, file.1 ++ bytes) ∷ files) k ([], [])).1)
    ≡ take (end - passed) (drop passed (get_or (file ∷ files) k ([], [])).1)
grown_at file files bytes zero passed end within ended =
    ap (λ xs. take (end - passed) xs)
    (drop-append-le passed file.1 bytes (omega (arith, within, ended)))
    ∙ take-append-le (end - passed) (drop passed file.1) bytes
    (omega (arith, within, ended, length-drop passed file.1))
grown_at file files bytes (suc k) passed end within ended = refl

-- what is written to a file is not read
unread_part-grown : (file : List ℕ × List ℕ) (files : List (List ℕ × List ℕ)) (bytes : List ℕ)
    (reading : Option Place) → passed_of reading ≤ end_of reading
    → end_of reading ≤ length (content_of (file ∷ files) reading)
    → unread_part ((file.0, file.1 ++ bytes) ∷ files) reading ≡ unread_part (file ∷ files) reading
unread_part-grown file files bytes None within ended = refl
unread_part-grown file files bytes (Some place) within ended =
    grown_at file files bytes place.file place.passed place.end within ended

-- the created file, which is the first one, is written
pub writes_first : (files files' : List (List ℕ × List ℕ)) (reading : Option Place) (created : Bool)
    (bytes : List ℕ) → created ≡ true → 0 < length files → files' ≡ grown files bytes
    → passed_of reading ≤ end_of reading → end_of reading ≤ length (content_of files reading)
    → Writes (Some (record {
      files = files;
      unread = unread_part files reading;
      created = created_name created files;
    })) (Some (record {
      files = files';
      unread = unread_part files' reading;
      created = created_name created files';
    })) bytes
writes_first [] files' reading created bytes is some e within ended = absurd (omega (arith, some))
writes_first (file ∷ files) files' reading created bytes is some e within ended =
    let told : List ℕ → Option Told =
    λ unread. Some (record {
      files = (file.0, file.1 ++ bytes) ∷ files;
      unread = unread;
      created = Some file.0;
    }) in
    rw (is, e) (
      file.0,
      file.1,
      _,
      refl,
      rw (same_name file.0) refl,
      puts_grown file.0 file.1 bytes files,
      ap told (unread_part-grown file files bytes reading within ended),
    )

-- the index of the file of a name, such that the others are what is left without it
LeavesFrom : List (String Global × Vec ℕ) → List ℕ → ℕ → Option ℕ → Type 0
LeavesFrom files name low None = without (named_bytes files) name ≡ named_bytes files
LeavesFrom files name low (Some i) = (k : ℕ) × (i ≡ low + k)
    × (without (named_bytes files) name ≡ named_bytes (take k files ++ drop (suc k) files))

leaves_later : (file : String Global × Vec ℕ) (files : List (String Global × Vec ℕ)) (name : List ℕ)
    (low : ℕ) (at : Option ℕ) → pointwise nat_eq (string_bytes file.0) name ≡ false
    → LeavesFrom files name (low + 1) at → LeavesFrom (file ∷ files) name low at
unfolding LeavesFrom
leaves_later file files name low None e h =
    rw e (ap (λ (xs : List (List ℕ × List ℕ)). (string_bytes file.0, file.1.items) ∷ xs) h)
leaves_later file files name low (Some i) e h = (
  suc h.0,
  omega (arith, h.1),
  rw e (ap (λ (xs : List (List ℕ × List ℕ)). (string_bytes file.0, file.1.items) ∷ xs) h.2),
)

leaves_from : (files : List (String Global × Vec ℕ)) (name : List ℕ) (low : ℕ)
    → LeavesFrom files name low (position_from
    (λ (f : String Global × Vec ℕ). pointwise nat_eq (string_bytes f.0) name) low files)
unfolding LeavesFrom
leaves_from [] name low = refl
leaves_from (file ∷ files) name low =
    by (leaves_from files name (low + 1)) (pointwise nat_eq (string_bytes file.0) name) refl
  where
    by : LeavesFrom files name (low + 1) (position_from
        (λ (f : String Global × Vec ℕ). pointwise nat_eq (string_bytes f.0) name) (low + 1)
        files) → (same : Bool) → pointwise nat_eq (string_bytes file.0) name ≡ same
        → LeavesFrom (file ∷ files) name low (position_from
        (λ (f : String Global × Vec ℕ). pointwise nat_eq (string_bytes f.0) name) low
        (file ∷ files))
    by ih true e =
        let first : without (named_bytes (file ∷ files)) name ≡ named_bytes files = rw e refl in
        rw e (0, omega arith, first)
    by ih false e = rw e (leaves_later file files name low _ e ih)

leaves_at : (files : List (String Global × Vec ℕ)) (name : List ℕ) (at : Option ℕ)
    → at ≡ position (λ (f : String Global × Vec ℕ). pointwise nat_eq (string_bytes f.0) name) files
    → LeavesFrom files name 0 at
leaves_at files name at found =
    let from : at ≡ position_from
    (λ (f : String Global × Vec ℕ). pointwise nat_eq (string_bytes f.0) name) 0 files =
    found
    ∙ position_from-zero
    (λ (f : String Global × Vec ℕ). pointwise nat_eq (string_bytes f.0) name) files in
    rw from (leaves_from files name 0)

-- the files without the one of that name, if there is none
pub without-none : (files : List (String Global × Vec ℕ)) (name : List ℕ)
    → None
    ≡ position (λ (f : String Global × Vec ℕ). pointwise nat_eq (string_bytes f.0) name) files
    → without (named_bytes files) name ≡ named_bytes files
unfolding LeavesFrom
without-none files name found = leaves_at files name None found

-- the files without the one of that name, which is at an index
pub without-some : (files : List (String Global × Vec ℕ)) (name : List ℕ) (i : ℕ)
    → Some i
    ≡ position (λ (f : String Global × Vec ℕ). pointwise nat_eq (string_bytes f.0) name) files
    → without (named_bytes files) name ≡ named_bytes (take i files ++ drop (suc i) files)
unfolding LeavesFrom
without-some files name i found =
    let left : LeavesFrom files name 0 (Some i) = leaves_at files name (Some i) found in
    let same : left.0 ≡ i = omega (arith, left.1) in
    left.2 ∙ ap (λ k. named_bytes (take k files ++ drop (suc k) files)) same

-- a file is put before the others, none of which has its name
pub named_bytes-put : (files items : List (String Global × Vec ℕ)) (file : String Global × Vec ℕ)
    (name : List ℕ) → items ≡ file ∷ files → string_bytes file.0 ≡ name → file.1.items ≡ []
    → without (named_bytes files) name ≡ named_bytes files
    → named_bytes items ≡ (name, []) ∷ without (named_bytes files) name
named_bytes-put files items file name put named empty rest = rw (put, rest, named, empty) refl

-- a file is put before the others, and the old one of its name is removed
pub named_bytes-replace : (files items left : List (String Global × Vec ℕ))
    (file : String Global × Vec ℕ) (name : List ℕ) (at : ℕ) → items ≡ file ∷ files
    → left ≡ take (at + 1) items ++ drop (suc (at + 1)) items → string_bytes file.0 ≡ name
    → file.1.items ≡ []
    → without (named_bytes files) name ≡ named_bytes (take at files ++ drop (suc at) files)
    → named_bytes left ≡ (name, []) ∷ without (named_bytes files) name
named_bytes-replace files items left file name at put removed named empty rest =
    let kept : take (at + 1) (file ∷ files) ++ drop (suc (at + 1)) (file ∷ files) ≡ file ∷
    (take at files ++ drop (suc at) files) =
    ap (λ k. take k (file ∷ files) ++ drop (suc k) (file ∷ files)) (add-one at) in
    let left_is : left ≡ file ∷ (take at files ++ drop (suc at) files) =
    removed ∙ ap (λ xs. take (at + 1) xs ++ drop (suc (at + 1)) xs) put ∙ kept in
    rw (left_is, rest, named, empty) refl
