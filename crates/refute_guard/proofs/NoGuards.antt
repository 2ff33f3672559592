-- Guards of which none holds, one after another from the last one on.
use Rattle.std.proofs.Common.{◌≡◌, ◌<◌, ◌+◌, ℕ, zero, suc, List, [], ◌∷◌, length, drop, get_or}
use Rattle.std.proofs.Common.{Option, Some, option_map, refl, sym, ◌∙◌, ap, subst}
use Rattle.std.proofs.lemmas.List.{drop_more}
use Rattle.std.proofs.Math.Seq.{drop-length}
use Rattle.ml_pat.specs.Patterns.{Pattern, imp, bot}
use Rattle.ml_pat.specs.Patterns as logic
use Rattle.ml_kernel.specs.Theorems.{Theorem}
use Rattle.ml_derived.specs.Scopes.{StaysWithin}
use Rattle.term_core.specs.Terms.{Forest}
use Rattle.rule_core.specs.Rules.{Equation, Guard}
use Rattle.ml_image.specs.Images.{both}
use Rattle.ml_image.specs.Sentences.{Sentence, bottom, or, sentence_image}
use Rattle.prove_term.specs.Contexts.{Context, StaysIn}
use Rattle.prove_term.specs.GuardsAt.{guard_at, guards_at}
use Rattle.prove_term.proofs.ImageShapes.{both_some}
use Rattle.refute_guard.specs.Guards.{DeniesGuard, DenyGuards, SaysNoGuard}
use Rattle.refute_guard.specs.Implications.{IsDenial}

-- the theorem says that none of the guards holds
pub record DeniesAll (cx : Context) (equations : List Equation) (k : ℕ) (gs : List Guard) (ts : Forest)
    (t : Theorem) : Type 0 where
  pub guards : Sentence
  pub are_guards : guards_at cx.program.sig equations k gs ts ≡ Some guards
  pub image : Pattern
  pub is_image : sentence_image cx.program.sig cx.names guards ≡ Some image
  pub says : t.conclusion ≡ imp image bot
  pub stays : StaysIn cx t

-- whatever guards these theorems deny
abbrev pub DenyRest : List Theorem → Theorem → Type 0
DenyRest ds t =
    (cx : Context) (equations : List Equation) (k : ℕ) (gs : List Guard) (ts : Forest)
    → DenyGuards cx equations k gs ts ds → DeniesAll cx equations k gs ts t

none_rest : (t : Theorem) → t.conclusion ≡ imp bot bot → StaysWithin [] [] t → DenyRest [] t
none_rest t says stays cx equations k [] ts deny = record {
  guards = bottom;
  are_guards = refl;
  image = bot;
  is_image = refl;
  says = says;
  stays = λ s has. stays s tt tt;
}
none_rest t says stays cx equations k (g ∷ gs) ts deny = absurd deny

pub none_denied : (ds : List Theorem) (t : Theorem) → t.conclusion ≡ imp bot bot
    → StaysWithin [] [] t → DenyRest (drop (length ds) ds) t
none_denied ds t says stays =
    subst (λ (es : List Theorem). DenyRest es t) (sym (drop-length ds)) (none_rest t says stays)

-- the parts of the denial of a guard
pub record IsGuardDenial (cx : Context) (s : Sentence) (c : Pattern) : Type 0 where
  pub image : Pattern
  pub is_image : sentence_image cx.program.sig cx.names s ≡ Some image
  pub says : c ≡ imp image bot

pub guard_denial : (cx : Context) (k : ℕ) (order : List ℕ) (ts : Forest) (e : Equation) (t : Theorem)
    (d : DeniesGuard cx k order ts e t) → IsGuardDenial cx d.guard t.conclusion
guard_denial cx k order ts e t d =
    let w : (p : Pattern) × (q : Pattern)
    × (sentence_image cx.program.sig cx.names d.guard ≡ Some p) × (Some bot ≡ Some q)
    × (t.conclusion ≡ imp p q) =
    both_some imp (sentence_image cx.program.sig cx.names d.guard) (Some bot) t.conclusion d.says in
    let nothing : bot ≡ w.1 = some_same bot w.1 w.3 in
    record {
      image = w.0;
      is_image = w.2;
      says = w.4 ∙ ap (imp w.0) (sym nothing);
    }
  where
    some_same : (p q : Pattern) → Some p ≡ Some q → p ≡ q
    some_same p q h = cc

more_rest : (d : Theorem) (ds : List Theorem) (t made : Theorem) → DenyRest ds t
    → ((e n : Pattern) → d.conclusion ≡ imp e bot → t.conclusion ≡ imp n bot
    → made.conclusion ≡ imp (logic.or e n) bot) → StaysWithin [] (d ∷ t ∷ []) made
    → DenyRest (d ∷ ds) made
more_rest d ds t made rest says stays cx equations k [] ts deny = absurd deny
more_rest d ds t made rest says stays cx equations k (g ∷ gs) ts ((e, there, one), others) =
    let all : DeniesAll cx equations (k + length g.order) gs ts t =
    rest cx equations (k + length g.order) gs ts others in
    let first : IsGuardDenial cx one.guard d.conclusion = guard_denial cx k g.order ts e d one in
    record {
      guards = or one.guard all.guards;
      are_guards =
          ap (λ (o : Option Equation). both or (guard_at cx.program.sig k g.order ts o)
          (guards_at cx.program.sig equations (k + length g.order) gs ts)) there
          ∙ ap (λ (o : Option Sentence). both or o
          (guards_at cx.program.sig equations (k + length g.order) gs ts)) one.is_guard
          ∙ ap (both or (Some one.guard)) all.are_guards;
      image = logic.or first.image all.image;
      is_image =
          ap (λ (o : Option Pattern). both logic.or o
          (sentence_image cx.program.sig cx.names all.guards)) first.is_image
          ∙ ap (both logic.or (Some first.image)) all.is_image;
      says = says first.image all.image first.says all.says;
      stays = λ s has. stays s tt (one.stays s has, (all.stays s has, tt));
    }

pub more_denied : (ds : List Theorem) (i j : ℕ) (d t made : Theorem) → i ≡ j + 1 → j < length ds
    → d ≡ get_or ds j d → DenyRest (drop i ds) t
    → ((e n : Pattern) → d.conclusion ≡ imp e bot → t.conclusion ≡ imp n bot
    → made.conclusion ≡ imp (logic.or e n) bot) → StaysWithin [] (d ∷ t ∷ []) made
    → DenyRest (drop j ds) made
more_denied ds i j d t made next low is rest says stays =
    subst (λ (es : List Theorem). DenyRest es made)
    (sym (drop_more ds j d low ∙ ap (λ (e : Theorem). e ∷ drop (j + 1) ds) (sym is)))
    (more_rest d (drop (j + 1) ds) t made
    (subst (λ (n : ℕ). DenyRest (drop n ds) t) next rest) says stays)

-- ---- there are such guards

pub record AreDenied (ds : List Theorem) : Type 0 where
  pub cx : Context
  pub equations : List Equation
  pub k : ℕ
  pub gs : List Guard
  pub ts : Forest
  pub deny : DenyGuards cx equations k gs ts ds

rest_denied : (d : Theorem) (ds : List Theorem) → AreDenied (d ∷ ds) → AreDenied ds
rest_denied d ds a = go a.gs a.deny
  where
    go : (gs : List Guard) → DenyGuards a.cx a.equations a.k gs a.ts (d ∷ ds) → AreDenied ds
    go [] deny = absurd deny
    go (g ∷ gs) deny = record {
      cx = a.cx;
      equations = a.equations;
      k = a.k + length g.order;
      gs = gs;
      ts = a.ts;
      deny = deny.1;
    }

pub dropped_denied : (ds : List Theorem) (i : ℕ) → AreDenied ds → AreDenied (drop i ds)
dropped_denied ds zero a = a
dropped_denied [] (suc i) a = a
dropped_denied (d ∷ ds) (suc i) a = dropped_denied ds i (rest_denied d ds a)

pub present_denial : (ds : List Theorem) (t : Theorem) → AreDenied ds → DenyRest ds t → IsDenial t
present_denial ds t a rest =
    let all : DeniesAll a.cx a.equations a.k a.gs a.ts t = rest a.cx a.equations a.k a.gs a.ts a.deny
    in (all.image, all.says)

first_denial : (d : Theorem) (ds : List Theorem) → AreDenied (d ∷ ds) → IsDenial d
first_denial d ds a = go a.gs a.deny
  where
    go : (gs : List Guard) → DenyGuards a.cx a.equations a.k gs a.ts (d ∷ ds) → IsDenial d
    go [] deny = absurd deny
    go (g ∷ gs) deny =
        let one : IsGuardDenial a.cx deny.0.2.guard d.conclusion =
        guard_denial a.cx a.k g.order a.ts deny.0.0 d deny.0.2 in
        (one.image, one.says)

pub item_denial : (ds : List Theorem) (j : ℕ) (d : Theorem) → j < length ds → d ≡ get_or ds j d
    → AreDenied ds → IsDenial d
item_denial ds j d low is a =
    first_denial d (drop (j + 1) ds)
    (subst AreDenied (drop_more ds j d low ∙ ap (λ (e : Theorem). e ∷ drop (j + 1) ds) (sym is))
    (dropped_denied ds j a))

-- ---- all of them

pub said : (cx : Context) (equations : List Equation) (k : ℕ) (gs : List Guard) (ts : Forest)
    (t made : Theorem) (n b : Pattern) → DeniesAll cx equations k gs ts t
    → t.conclusion ≡ imp n b → made.conclusion ≡ logic.not n → StaysWithin [] (t ∷ []) made
    → made.hypotheses ≡ [] → SaysNoGuard cx equations k gs ts made
said cx equations k gs ts t made n b all read says stays none = record {
  guards = all.guards;
  are_guards = all.are_guards;
  says =
      ap (option_map logic.not) all.is_image
      ∙ ap (λ (p : Pattern). Some (logic.not p)) (left all.image bot n b (sym all.says ∙ read))
      ∙ ap (λ (p : Pattern). Some p) (sym says);
  no_hypotheses = none;
  stays = λ s has. stays s tt (all.stays s has, tt);
}
  where
    left : (p q r s : Pattern) → imp p q ≡ imp r s → p ≡ r
    left p q r s h = cc
