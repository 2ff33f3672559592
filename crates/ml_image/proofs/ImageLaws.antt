-- Numbers and images under names that have gained tokens.
use Rattle.std.proofs.Common.{◌≡◌, ℕ, ◌+◌, ◌<◌, get_or, subst, append-nil, MatchOption, IfOk}
use Rattle.std.proofs.Common.{Result, Ok, Err, slice_get, zero, suc, drop, arith, List, [], ◌∷◌}
use Rattle.std.proofs.Common.{◌++◌, Bool, true, false, cond, Option, Some, None, option_map, refl}
use Rattle.std.proofs.Common.{sym, ◌∙◌, ap, length, append_assoc}
use Rattle.std.specs.List.{position_from}
use Rattle.std.proofs.lemmas.Option.{slice_get_within, get_or_from_slice_get}
use Rattle.std.proofs.lemmas.List.{drop_more}
use Rattle.rule_core.specs.declared.signature.SymInfo.{SymInfo}
use Rattle.std.proofs.lemmas.Slice.Eq.{bytes_eq-Decides}
use Rattle.ml_pat.proofs.NamedLaws.{number_of-push}
use Rattle.ml_pat.specs.Patterns.{Pattern, app, at_sort, constant}
use Rattle.ml_pat.specs.Named.{token_number, IsNumbered}
use Rattle.term_core.specs.Patterns.{Pattern as RulePattern, Patterns as RulePatterns, variable}
use Rattle.term_core.specs.Patterns.{domain_value, application, injection, call, no_pattern}
use Rattle.term_core.specs.Patterns.{more_patterns}
use Rattle.rule_core.specs.declared.signature.Signature.{Signature}
use Rattle.ml_image.specs.Tokens.{token_of_sort, token_of_symbol, token_of_value, number_in_names}
use Rattle.ml_image.specs.Images.{both, symbol_image, at_sorts, image_of, applied}
use Rattle.ml_image.specs.Images.{some_symbol_image, injection_symbol, injection_image}
use Rattle.rule_core.specs.KindTests.{is_injection}
use Rattle.ml_image.specs.Injecting.{IsInjectionAt}
use Rattle.ml_image.specs.OwnTokens.{IsOwnToken}
use Rattle.ml_image.specs.Gained.{AreOwnTokens, HasGained}

-- a result that exists does not change
abbrev pub Keeps : {A : Type 0} → Option A → Option A → Type 0
Keeps {A} old new = (a : A) → old ≡ Some a → new ≡ Some a

pub none_some : {A : Type 0} (a : A) → None ≡ Some a → ⊥
none_some a h = cc

pub some_same : {A : Type 0} (a b : A) → Some a ≡ Some b → a ≡ b
some_same a b h = cc

found-append : (f : List ℕ → Bool) (i : ℕ) (es more : List (List ℕ))
    → Keeps (position_from f i es) (position_from f i (es ++ more))
found-append f i [] more n h = absurd (none_some n h)
found-append f i (e ∷ es) more n h = first (f e) _ _ (found-append f (i + 1) es more) n h
  where
    first : (b : Bool) (old new : Option ℕ) → Keeps old new
        → Keeps (cond b (Some i) old) (cond b (Some i) new)
    first true old new k n h = h
    first false old new k n h = k n h

pub both-keeps : {A B C : Type 0} (f : A → B → C) (a a' : Option A) (b b' : Option B) → Keeps a a'
    → Keeps b b' → Keeps (both f a b) (both f a' b')
both-keeps f None a' b b' ka kb c h = absurd (none_some c h)
both-keeps f (Some x) a' None b' ka kb c h = absurd (none_some c h)
both-keeps f (Some x) a' (Some y) b' ka kb c h = rw (ka x refl, kb y refl) h

pub map-keeps : {A B : Type 0} (f : A → B) (a a' : Option A) → Keeps a a'
    → Keeps (option_map f a) (option_map f a')
map-keeps f None a' k b h = absurd (none_some b h)
map-keeps f (Some x) a' k b h = rw (k x refl) h

pub numbered-keeps : (names more : List (List ℕ)) (t : Option (List ℕ))
    → Keeps (number_in_names names t) (number_in_names (names ++ more) t)
numbered-keeps names more None n h = absurd (none_some n h)
numbered-keeps names more (Some t) n h = found-append _ 0 names more n h

pub symbol-keeps : (sig : Signature) (names more : List (List ℕ)) (f : ℕ)
    → Keeps (symbol_image sig names f) (symbol_image sig (names ++ more) f)
symbol-keeps sig names more f =
    map-keeps constant _ _ (numbered-keeps names more (token_of_symbol sig f))

pub at_sorts-keeps : (sig : Signature) (names more : List (List ℕ)) (ss : List ℕ)
    (head head' : Option Pattern) → Keeps head head'
    → Keeps (at_sorts sig names head ss) (at_sorts sig (names ++ more) head' ss)
at_sorts-keeps sig names more [] head head' k = k
at_sorts-keeps sig names more (s ∷ ss) head head' k =
    at_sorts-keeps sig names more ss _ _
    (both-keeps at_sort _ _ _ _ k (numbered-keeps names more (token_of_sort sig s)))

some_symbol-keeps : (sig : Signature) (names more : List (List ℕ)) (o : Option ℕ)
    → Keeps (some_symbol_image sig names o) (some_symbol_image sig (names ++ more) o)
some_symbol-keeps sig names more None m h = absurd (none_some m h)
some_symbol-keeps sig names more (Some f) m h = symbol-keeps sig names more f m h

pub injection-keeps : (sig : Signature) (names more : List (List ℕ)) (a b : ℕ)
    → Keeps (injection_image sig names a b) (injection_image sig (names ++ more) a b)
injection-keeps sig names more a b =
    at_sorts-keeps sig names more (a ∷ b ∷ []) _ _
    (some_symbol-keeps sig names more (injection_symbol sig))

mutual
  pub image-keeps : (sig : Signature) (names more : List (List ℕ)) (p : RulePattern)
      → Keeps (image_of sig names p) (image_of sig (names ++ more) p)
  image-keeps sig names more (variable x) m h = h
  image-keeps sig names more (domain_value s v) m h =
      map-keeps constant _ _ (numbered-keeps names more (token_of_value sig s v)) m h
  image-keeps sig names more (injection a b p) m h =
      both-keeps app _ _ _ _ (injection-keeps sig names more a b) (image-keeps sig names more p) m h
  image-keeps sig names more (application f ps) m h =
      applied-keeps sig names more ps _ _ (symbol-keeps sig names more f) m h
  image-keeps sig names more (call f ss ps) m h =
      applied-keeps sig names more ps _ _
      (at_sorts-keeps sig names more ss _ _ (symbol-keeps sig names more f)) m h

  pub applied-keeps : (sig : Signature) (names more : List (List ℕ)) (ps : RulePatterns)
      (head head' : Option Pattern) → Keeps head head'
      → Keeps (applied sig names head ps) (applied sig (names ++ more) head' ps)
  applied-keeps sig names more no_pattern head head' k m h = k m h
  applied-keeps sig names more (more_patterns p ps) head head' k m h =
      applied-keeps sig names more ps _ _ (both-keeps app _ _ _ _ k (image-keeps sig names more p))
      m h

-- no gained token, one own token, and gaining tokens twice
pub gained-nothing : (sig : Signature) (names : List (List ℕ)) → HasGained sig names names
gained-nothing sig names = record { gained = []; all = sym (append-nil names); own = tt }

AreOwn-append : (sig : Signature) (ts us : List (List ℕ)) → AreOwnTokens sig ts
    → AreOwnTokens sig us → AreOwnTokens sig (ts ++ us)
AreOwn-append sig [] us h k = k
AreOwn-append sig (t ∷ ts) us h k = (h.0, AreOwn-append sig ts us h.1 k)

pub gained_twice : (sig : Signature) (a b c : List (List ℕ)) → HasGained sig a b → HasGained sig b c
    → HasGained sig a c
gained_twice sig a b c h k = record {
  gained = h.gained ++ k.gained;
  all =
      k.all ∙ ap (λ (ns : List (List ℕ)). ns ++ k.gained) h.all ∙ append_assoc a h.gained k.gained;
  own = AreOwn-append sig h.gained k.gained h.own k.own;
}

-- a result under the old names is the same under the names that have gained tokens
pub gained-symbol : (sig : Signature) (old new : List (List ℕ)) (f : ℕ) → HasGained sig old new
    → Keeps (symbol_image sig old f) (symbol_image sig new f)
gained-symbol sig old new f g =
    subst (λ (ns : List (List ℕ)). Keeps (symbol_image sig old f) (symbol_image sig ns f))
    (sym g.all) (symbol-keeps sig old g.gained f)

pub gained-at_sorts : (sig : Signature) (old new : List (List ℕ)) (ss : List ℕ)
    (head head' : Option Pattern) → HasGained sig old new → Keeps head head'
    → Keeps (at_sorts sig old head ss) (at_sorts sig new head' ss)
gained-at_sorts sig old new ss head head' g k =
    subst (λ (ns : List (List ℕ)). Keeps (at_sorts sig old head ss) (at_sorts sig ns head' ss))
    (sym g.all) (at_sorts-keeps sig old g.gained ss head head' k)

pub gained-applied : (sig : Signature) (old new : List (List ℕ)) (ps : RulePatterns)
    (head head' : Option Pattern) → HasGained sig old new → Keeps head head'
    → Keeps (applied sig old head ps) (applied sig new head' ps)
gained-applied sig old new ps head head' g k =
    subst (λ (ns : List (List ℕ)). Keeps (applied sig old head ps) (applied sig ns head' ps))
    (sym g.all) (applied-keeps sig old g.gained ps head head' k)

pub gained-image : (sig : Signature) (old new : List (List ℕ)) (p : RulePattern)
    → HasGained sig old new → Keeps (image_of sig old p) (image_of sig new p)
gained-image sig old new p g =
    subst (λ (ns : List (List ℕ)). Keeps (image_of sig old p) (image_of sig ns p)) (sym g.all)
    (image-keeps sig old g.gained p)

-- a token that was looked up has its number
numbered-by : (old new : List (List ℕ)) (token : List ℕ) (n : ℕ) (o : Option ℕ)
    → token_number old token ≡ o
    → MatchOption o ((n ≡ length old) × (new ≡ old ++ token ∷ [])) (λ m. (n ≡ m) × (new ≡ old))
    → token_number new token ≡ Some n
numbered-by old new token n None e h =
    ap (λ (ns : List (List ℕ)). token_number ns token) h.1 ∙ number_of-push old token token e
    ∙ ap (λ (b : Bool). cond b (Some (length old)) (token_number old token))
    ((bytes_eq-Decides token token).1 refl) ∙ ap (λ (m : ℕ). Some m) (sym h.0)
numbered-by old new token n (Some m) e h =
    ap (λ (ns : List (List ℕ)). token_number ns token) h.1 ∙ e ∙ ap (λ (k : ℕ). Some k) (sym h.0)

pub number_of-numbered : (old new : List (List ℕ)) (token : List ℕ) (n : ℕ)
    → IsNumbered old new token n → token_number new token ≡ Some n
number_of-numbered old new token n h = numbered-by old new token n (token_number old token) refl h

gained-by : (sig : Signature) (old new : List (List ℕ)) (token : List ℕ) (n : ℕ) (o : Option ℕ)
    → IsOwnToken sig token
    → MatchOption o ((n ≡ length old) × (new ≡ old ++ token ∷ [])) (λ m. (n ≡ m) × (new ≡ old))
    → HasGained sig old new
gained-by sig old new token n None own h = record {
  gained = token ∷ [];
  all = h.1;
  own = (own, tt);
}
gained-by sig old new token n (Some m) own h = record {
  gained = [];
  all = h.1 ∙ sym (append-nil old);
  own = tt;
}

pub gained-numbered : (sig : Signature) (old new : List (List ℕ)) (token : List ℕ) (n : ℕ)
    → IsOwnToken sig token → IsNumbered old new token n → HasGained sig old new
gained-numbered sig old new token n own h =
    gained-by sig old new token n (token_number old token) own h

-- if a property holds of a result, so does each weaker property
pub if_ok : {T E : Type 0} (P Q : T → Type 0) (r : Result T E) → ((x : T) → P x → Q x) → IfOk r P
    → IfOk r Q
if_ok P Q (Ok x) f h = f x h
if_ok P Q (Err e) f h = tt

-- the item that is read at an index is the item there
pub item_there : {X : Type 0} (xs : List X) (i : ℕ) (x y : X) → x ≡ get_or xs i x
    → slice_get xs i ≡ Some y → y ≡ x
item_there [] i x y read there = absurd (none_some y there)
item_there (z ∷ zs) zero x y read there = some_same _ _ (sym there) ∙ sym read
item_there (z ∷ zs) (suc i) x y read there = item_there zs i x y read there

pub gained-injection : (sig : Signature) (old new : List (List ℕ)) (a b : ℕ) → HasGained sig old new
    → Keeps (injection_image sig old a b) (injection_image sig new a b)
gained-injection sig old new a b g =
    subst (λ (ns : List (List ℕ)). Keeps (injection_image sig old a b) (injection_image sig ns a b))
    (sym g.all) (injection-keeps sig old g.gained a b)

-- the first injection symbol from an index on, one index further
pub injection-next : (f : List ℕ × SymInfo → Bool) (es : List (List ℕ × SymInfo)) (i : ℕ)
    (e : List ℕ × SymInfo) → slice_get es i ≡ Some e
    → position_from f i (drop i es)
    ≡ cond (f e) (Some i) (position_from f (i + 1) (drop (i + 1) es))
injection-next f es i e there =
    let lt : i < length es = slice_get_within es i e there in
    let front : drop i es ≡ e ∷ drop (i + 1) es =
    drop_more es i e lt
    ∙ ap (λ (x : List ℕ × SymInfo). x ∷ drop (i + 1) es)
    (get_or_from_slice_get es i e e there) in
    ap (λ (xs : List (List ℕ × SymInfo)). position_from f i xs) front

pub injection-step : (sig : Signature) (i : ℕ) (injects : Bool) → i < length sig.symbols
    → IsInjectionAt sig i injects
    → position_from (λ (e : List ℕ × SymInfo). is_injection e.1.kind) i (drop i sig.symbols)
    ≡ cond injects (Some i) (position_from (λ (e : List ℕ × SymInfo). is_injection e.1.kind)
    (i + 1) (drop (i + 1) sig.symbols))
injection-step sig i injects lt h =
    let e : List ℕ × SymInfo = (item sig.symbols i lt).0 in
    let there : slice_get sig.symbols i ≡ Some e = (item sig.symbols i lt).1 in
    injection-next (λ (d : List ℕ × SymInfo). is_injection d.1.kind) sig.symbols i e there
    ∙ ap (λ (b : Bool). cond b (Some i) (position_from
    (λ (d : List ℕ × SymInfo). is_injection d.1.kind) (i + 1) (drop (i + 1) sig.symbols)))
    (sym (h e there))
  where
    item : {X : Type 0} (xs : List X) (k : ℕ) → k < length xs → (x : X) × (slice_get xs k ≡ Some x)
    item [] k low = absurd (omega (arith, low))
    item (x ∷ xs) zero low = (x, refl)
    item (x ∷ xs) (suc k) low = item xs k (omega (arith, low))
