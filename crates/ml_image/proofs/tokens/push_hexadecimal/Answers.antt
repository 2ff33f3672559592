use Rattle.std.proofs.Common.{◌≡◌, ◌/◌, ◌%◌, ◌++◌, ◌∷◌, [], string_bytes, get_or, ap, ◌∙◌, List, ℕ}
use Rattle.std.specs.Char.{digit_char}
use Rattle.std.proofs.lemmas.List.{get_or_default}
use Rattle.ml_image.proofs.HexLaws.{hexadecimal-next}
use Rattle.ml_image.proofs.tokens.push_hexadecimal.Goals as goal

pub loop-byte-preserved : goal.loop-byte-preserved
loop-byte-preserved c =
    let byte : ℕ = get_or c.args.bytes.now c.loop-byte.byte-index 0 in
    let high : string_bytes c.push.new.self ≡ string_bytes c.loop-byte.token ++ digit_char
    (byte / 16) ∷ [] =
    c.in_ok-push.ensures.bytes
    ∙ ap (λ (bs : List ℕ). string_bytes c.loop-byte.token ++ bs)
    (c.in_ok-push.ensures.ascii c.digit.ensures.ascii
    ∙ ap (λ (ch : ℕ). ch ∷ []) c.digit.ensures.value) in
    let low : string_bytes c.push-in-loop-byte.new.self ≡ string_bytes c.push.new.self ++ digit_char
    (byte % 16) ∷ [] =
    c.in_ok-push-2.ensures.bytes
    ∙ ap (λ (bs : List ℕ). string_bytes c.push.new.self ++ bs)
    (c.in_ok-push-2.ensures.ascii c.digit-in-loop-byte.ensures.ascii
    ∙ ap (λ (ch : ℕ). ch ∷ []) c.digit-in-loop-byte.ensures.value) in
    low ∙ ap (λ (bs : List ℕ). bs ++ digit_char (byte % 16) ∷ []) high
    ∙ hexadecimal-next c.args.bytes.now c.loop-byte.byte-index byte (string_bytes c.args.token.now)
    (string_bytes c.loop-byte.token) c.loop-byte-test.true
    (get_or_default _ _ _ _ c.loop-byte-test.true) c.loop-byte.invariant
