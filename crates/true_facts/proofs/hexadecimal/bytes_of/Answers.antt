use Rattle.std.proofs.Common.{◌≡◌, ◌<◌, ◌≤◌, ◌+◌, ◌*◌, ◌++◌, ℕ, List, length, drop}
use Rattle.std.proofs.Common.{refl, sym, ◌∙◌, ap, subst, arith}
use Rattle.std.proofs.lemmas.List.{append-nil, drop_all}
use Rattle.ml_image.specs.Tokens.{hexadecimal}
use Rattle.true_facts.specs.Digits.{AreBytes}
use Rattle.true_facts.proofs.DigitLaws.{not_spelled, no_byte, odd_digits, two_digits, spelled-next}
use Rattle.true_facts.proofs.DigitLaws.{bytes-push}
use Rattle.true_facts.proofs.hexadecimal.bytes_of.Goals as goal

pub returns-then-digits-eq1 : goal.returns-then-digits-eq1
returns-then-digits-eq1 c = λ bytes are h.
    odd_digits c.args.digits.now bytes c.if-digits-eq1.true h

pub loop-i-init : goal.loop-i-init
loop-i-init c =
    subst (λ (bs : List ℕ). AreBytes bs × (c.args.digits.now ≡ hexadecimal bs ++ c.args.digits.now))
    (sym c.in_ok-bytes.ensures.items) (λ k d low. absurd (omega arith), refl)

pub loop-i-preserved : goal.loop-i-preserved
loop-i-preserved c =
    let low : 2 * c.loop-i.i + 1 < length c.args.digits.now =
    omega (arith, c.loop-i-test.true) in
    subst (λ (bs : List ℕ). AreBytes bs
    × (c.args.digits.now ≡ hexadecimal bs ++ drop (2 * (c.loop-i.i + 1)) c.args.digits.now))
    (sym c.in_ok-push.ensures.items) (
      bytes-push c.loop-i.bytes.items c.in-Some.byte c.loop-i.invariant.0 c.in-Some.ensures.0,
      spelled-next c.args.digits.now c.loop-i.bytes.items
          (drop (2 * c.loop-i.i) c.args.digits.now)
          (drop (2 * (c.loop-i.i + 1)) c.args.digits.now) _ _ c.in-Some.byte c.loop-i.invariant.1
          (two_digits c.args.digits.now c.loop-i.i 0 low) c.in-Some.ensures.1 c.in-Some.ensures.2,
    )

pub returns-in_default : goal.returns-in_default
returns-in_default c = λ bytes are h.
    let low : 2 * c.loop-i.i + 1 < length c.args.digits.now =
    omega (arith, c.loop-i-test.true) in
    not_spelled c.args.digits.now c.loop-i.bytes.items (drop (2 * c.loop-i.i) c.args.digits.now)
    bytes c.loop-i.invariant.1
    (λ more each is. no_byte _ _ (drop (2 * (c.loop-i.i + 1)) c.args.digits.now) more
    c.in_default.ensures each
    (sym (two_digits c.args.digits.now c.loop-i.i 0 low) ∙ is)) are h

pub returns : goal.returns
returns c =
    let past : length c.args.digits.now ≤ 2 * c.loop-i.i =
    omega (arith, c.loop-i-test.false, c.if-digits-eq1.false) in (
      c.loop-i.invariant.0,
      c.loop-i.invariant.1
          ∙ ap (λ (ds : List ℕ). hexadecimal c.loop-i.bytes.items ++ ds)
          (drop_all (2 * c.loop-i.i) c.args.digits.now past)
          ∙ append-nil (hexadecimal c.loop-i.bytes.items),
    )
