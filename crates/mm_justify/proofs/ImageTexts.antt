-- The images of what small definitions say, computed.
use Rattle.std.proofs.Common.{◌≡◌, ◌+◌, ◌≤◌, ℕ, [], ◌∷◌, refl, ap, arith}
use Rattle.std.specs.Prelude.{decimal}
use Rattle.std.proofs.lemmas.Fmt.{decimal_by_steps, decimal-digits_of}
use Rattle.rule_core.specs.declared.signature.Signature.{Signature}
use Rattle.mm_justify.specs.ImageCases.{DeclaresMoves, MovingSpelt, DeclaresNumbers, NumbersSpelt}
use Rattle.mm_justify.specs.ImageCases.{DeclaresLists, ListsSpelt, DeclaresAddition, AdditionSpelt}
use Rattle.mm_justify.specs.ImageCases.{DeclaresParts, PartsSpelt, TriedImages}
use Rattle.mm_justify.specs.LastResortCases.{DeclaresIntegers, IntegersSpelt, DeclaresGuards}
use Rattle.mm_justify.specs.LastResortCases.{GuardsSpelt, TriedLastResorts}

-- the digits of a number below 10
digit : (n : ℕ) → n ≤ 9 → decimal n ≡ (48 + n) ∷ []
digit n low =
    decimal_by_steps (λ m ds. m ≡ n → ds ≡ (48 + n) ∷ [])
    (λ m small is. ap (λ (k : ℕ). (48 + k) ∷ []) is)
    (λ m ds large below is. absurd (omega (arith, large, is, low))) n (omega arith) refl

d0 : decimal 0 ≡ 48 ∷ []
d0 = digit 0 (omega arith)

d1 : decimal 1 ≡ 49 ∷ []
d1 = digit 1 (omega arith)

d2 : decimal 2 ≡ 50 ∷ []
d2 = digit 2 (omega arith)

d3 : decimal 3 ≡ 51 ∷ []
d3 = digit 3 (omega arith)

d4 : decimal 4 ≡ 52 ∷ []
d4 = digit 4 (omega arith)

d5 : decimal 5 ≡ 53 ∷ []
d5 = digit 5 (omega arith)

d6 : decimal 6 ≡ 54 ∷ []
d6 = digit 6 (omega arith)

d7 : decimal 7 ≡ 55 ∷ []
d7 = digit 7 (omega arith)

d8 : decimal 8 ≡ 56 ∷ []
d8 = digit 8 (omega arith)

d10 : decimal 10 ≡ 49 ∷ (48 ∷ [])
d10 = decimal-digits_of 10 (omega arith) (omega arith)

moving : (sig : Signature) → DeclaresMoves sig → MovingSpelt sig
moving sig h = record {
  rule = rw (h.injects, h.inj, h.lower, h.left, h.right, h.k, h.done, d0) refl;
  subsort = rw (h.injects, h.inj, h.lower, h.right, d0, d1) refl;
}

lists : (sig : Signature) → DeclaresLists sig → ListsSpelt sig
lists sig h = record {
  nothing = rw (h.lists, h.dotk, h.append, d0, d1, d2) refl;
  item = rw (h.lists, h.items, h.kseq, h.append, d0, d1, d2, d3, d4) refl;
  directly = rw (h.lists, h.dotk, h.append, d0) refl;
  total = rw (h.lists, h.items, h.kseq, d0, d1, d2) refl;
  apart = rw (h.lists, h.items, h.kseq, h.dotk, d0, d1) refl;
  free = rw (h.lists, h.items, h.kseq, d0, d1, d2, d3) refl;
}

additions : (sig : Signature) → DeclaresAddition sig → AdditionSpelt sig
additions sig h = record {
  rule =
      rw (
        h.injects,
        h.inj,
        h.integers,
        h.expressions,
        h.items,
        h.lists,
        h.kseq,
        h.plus,
        h.sum,
        h.cell,
        d0,
        d1,
        d2,
      ) refl;
  collapse = rw (h.injects, h.inj, h.integers, h.expressions, h.items, d0) refl;
}

numbers : (sig : Signature) → DeclaresNumbers sig → NumbersSpelt sig
numbers sig h = record {
  rule = rw (h.integers, h.truths, h.gt, h.t, h.u, d10, d0) refl;
  value = rw (h.integers, d5) refl;
  sum = rw (h.integers, h.add, d2, d3, d5) refl;
}

parts : (sig : Signature) → DeclaresParts sig → PartsSpelt sig
parts sig h = record {
  part = rw (h.items, h.f, h.g, h.h, d0, d1) refl;
  whole = rw (h.items, h.f, h.g, h.h, d0, d1, d2, d3) refl;
  directly = rw (h.items, h.f, h.h, d0, d1, d2) refl;
  kompiled = rw (h.items, h.f, h.h, d0, d1, d2, d3, d4) refl;
}

integers : (sig : Signature) → DeclaresIntegers sig → IntegersSpelt sig
integers sig h =
    rw (
      h.injects,
      h.inj,
      h.lists,
      h.items,
      h.integers,
      h.truths,
      h.kseq,
      h.dotk,
      h.is_int,
      d0,
      d1,
      d2,
    ) refl

guards : (sig : Signature) → DeclaresGuards sig → GuardsSpelt sig
guards sig h = rw (h.items, h.truths, h.f, h.h, d0, d1, d2, d3, d4, d5, d6, d7, d8) refl

pub tried_last_resorts : TriedLastResorts
tried_last_resorts = record { integers = integers; guards = guards }

pub tried_images : TriedImages
tried_images = record {
  moving = moving;
  numbers = numbers;
  lists = lists;
  additions = additions;
  parts = parts;
}
