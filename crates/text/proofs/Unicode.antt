-- The table's sequences are the encodings of the Unicode scalar values.
use Rattle.std.proofs.Common.{◌≡◌, ℕ, ◌+◌, ◌-◌, ◌*◌, ◌/◌, ◌<◌, ◌≤◌, true, ◌⊎◌, List, [], ◌∷◌, IsUtf8, sym, ◌∙◌, subst, inl, inr, ⊎_elim, arith}
use lib.Utf8.{scalar, scalars, encode, encodes, next, scalar_cases}
use Rattle.std.specs.List.{flat_map, All}
use Rattle.std.proofs.lemmas.List.Elements.{All-head, All-tail}
use Rattle.std.proofs.lemmas.Str.{IsUtf8-append, IsUtf8-nil, IsUtf8-encode}
use Rattle.std.proofs.lemmas.Bool.Decides.{nat_tests, leb_tells}
use Rattle.text.specs.Table.{In, Sequence, row1, row2, row3, row4, row5, row6, row7, row8, row9}
use Rattle.text.specs.Splits.{WellFormed}
use Rattle.text.proofs.Joins.{split_nil, split_more}

-- the encodings by their lengths
encode1 : (c : ℕ) → c < 128 → encode c ≡ c ∷ []
unfolding encode
encode1 c h = grind (arith, nat_tests)

encode2 : (c : ℕ) → 128 ≤ c → c < 2048 → encode c ≡ (192 + c / 64) ∷ next c ∷ []
unfolding encode
encode2 c l h = grind (arith, nat_tests)

encode3 : (c : ℕ) → 2048 ≤ c → c < 65536 → encode c ≡ (224 + c / 4096) ∷ next (c / 64) ∷ next c ∷ []
unfolding encode
encode3 c l h = grind (arith, nat_tests)

encode4 : (c : ℕ) → 65536 ≤ c → encode c ≡ (240 + c / 262144) ∷ next (c / 4096) ∷ next (c / 64) ∷ next c ∷ []
unfolding encode
encode4 c l = grind (arith, nat_tests)

-- each scalar value's encoding is a row's, by its ranges of code points
encoded3 : (c : ℕ) → 2048 ≤ c → c < 65536 → (c < 55296) ⊎ (57344 ≤ c) → Sequence ((224 + c / 4096) ∷ next (c / 64) ∷ next c ∷ [])
encoded3 c l h s =
    elim (leb_tells 4096 c) [
      | inr i ↦ row3 (omega arith, omega arith) (omega arith, omega arith) (omega arith, omega arith)
      | inl i ↦ elim (leb_tells 53248 c) [
        | inr j ↦ row4 (omega arith, omega arith) (omega arith, omega arith) (omega arith, omega arith)
        | inl j ↦ elim s [
          | inl u ↦ row5 (omega arith, omega arith) (omega arith, omega arith) (omega arith, omega arith)
          | inr u ↦ row6 (omega arith, omega arith) (omega arith, omega arith) (omega arith, omega arith)
        ]
      ]
    ]

encoded4 : (c : ℕ) → 65536 ≤ c → c < 1114112 → Sequence ((240 + c / 262144) ∷ next (c / 4096) ∷ next (c / 64) ∷ next c ∷ [])
encoded4 c l h =
    elim (leb_tells 262144 c) [
      | inr i ↦ row7 (omega arith, omega arith) (omega arith, omega arith) (omega arith, omega arith) (omega arith, omega arith)
      | inl i ↦ elim (leb_tells 1048576 c) [
        | inr j ↦ row8 (omega arith, omega arith) (omega arith, omega arith) (omega arith, omega arith) (omega arith, omega arith)
        | inl j ↦ row9 (omega arith, omega arith) (omega arith, omega arith) (omega arith, omega arith) (omega arith, omega arith)
      ]
    ]

pub encoded : (c : ℕ) → scalar c ≡ true → Sequence (encode c)
encoded c s =
    elim (leb_tells 128 c) [
      | inr h ↦ subst Sequence (sym (encode1 c h.1)) (row1 (omega arith, omega arith))
      | inl h ↦ elim (leb_tells 2048 c) [
        | inr i ↦ subst Sequence (sym (encode2 c h.1 i.1)) (row2 (omega arith, omega arith) (omega arith, omega arith))
        | inl i ↦ elim (leb_tells 65536 c) [
          | inr j ↦ subst Sequence (sym (encode3 c i.1 j.1)) (encoded3 c i.1 j.1 (⊎_elim inl (λ u. inr u.0) (scalar_cases c s)))
          | inl j ↦ subst Sequence (sym (encode4 c j.1)) (encoded4 c j.1 (⊎_elim (λ u. omega arith) (λ u. u.1) (scalar_cases c s)))
        ]
      ]
    ]

splits_encodes : (cs : List ℕ) → scalars cs ≡ true → WellFormed (encodes cs)
splits_encodes [] s = split_nil
splits_encodes (c ∷ cs) s = let p : (scalar c ≡ true) × (scalars cs ≡ true) = grind arith in split_more (encoded c p.0) (splits_encodes cs p.1)

pub from_utf8 : (text : List ℕ) → IsUtf8 text → WellFormed text
from_utf8 text (cs, (s, e)) = subst WellFormed e (splits_encodes cs s)

-- each row's sequence encodes the scalar value of its bits
abbrev Decoded : List ℕ → Type 0
Decoded s = (c : ℕ) × ((scalar c ≡ true) × (encode c ≡ s))

decoded3 : (a b d : ℕ) → In 0xE0 0xEF a → In 0x80 0xBF b → In 0x80 0xBF d → (a ≡ 0xE0 → 0xA0 ≤ b) → (a ≡ 0xED → b ≤ 0x9F) → Decoded (a ∷ b ∷ d ∷ [])
decoded3 a b d p q r low high =
    let c = (a - 224) * 4096 + (b - 128) * 64 + (d - 128) in
    let x : 224 + c / 4096 ≡ a = omega arith in
    let m : c / 64 ≡ (a - 224) * 64 + (b - 128) = omega arith in
    let y : next (c / 64) ≡ b = subst (λ n. next n ≡ b) (sym m) (omega arith) in
    let z : next c ≡ d = omega arith in
    let wide : 2048 ≤ c = grind arith in
    let apart : (c < 55296) ⊎ (57344 ≤ c) = elim (leb_tells a 0xEC) [ inl h ↦ inl (omega arith) | inr h ↦ elim (leb_tells a 0xED) [ inl i ↦ inl (omega (arith, high (omega arith))) | inr i ↦ inr (omega arith) ] ] in
    (c, (grind (arith, nat_tests), encode3 c wide (omega arith) ∙ (λ k. x k ∷ y k ∷ z k ∷ [])))

decoded4 : (a b d e : ℕ) → In 0xF0 0xF4 a → In 0x80 0xBF b → In 0x80 0xBF d → In 0x80 0xBF e → (a ≡ 0xF0 → 0x90 ≤ b) → (a ≡ 0xF4 → b ≤ 0x8F) → Decoded (a ∷ b ∷ d ∷ e ∷ [])
decoded4 a b d e p q r u low high =
    let c = (a - 240) * 262144 + (b - 128) * 4096 + (d - 128) * 64 + (e - 128) in
    let x : 240 + c / 262144 ≡ a = omega arith in
    let n : c / 4096 ≡ (a - 240) * 64 + (b - 128) = omega arith in
    let y : next (c / 4096) ≡ b = subst (λ k. next k ≡ b) (sym n) (omega arith) in
    let m : c / 64 ≡ (a - 240) * 4096 + (b - 128) * 64 + (d - 128) = omega arith in
    let z : next (c / 64) ≡ d = subst (λ n. next n ≡ d) (sym m) (omega arith) in
    let v : next c ≡ e = omega arith in
    let wide : 65536 ≤ c = grind arith in
    let most : c < 1114112 = grind arith in
    (c, (grind (arith, nat_tests), encode4 c wide ∙ (λ k. x k ∷ y k ∷ z k ∷ v k ∷ [])))

decoded : {s : List ℕ} → Sequence s → Decoded s
decoded (row1 {a} p) = (a, (grind (arith, nat_tests), encode1 a (omega arith)))
decoded (row2 {a} {b} p q) =
    let c = (a - 192) * 64 + (b - 128) in
    let x : 192 + c / 64 ≡ a = omega arith in
    let y : next c ≡ b = omega arith in
    (c, (grind (arith, nat_tests), encode2 c (omega arith) (omega arith) ∙ (λ k. x k ∷ y k ∷ [])))
decoded (row3 {a} {b} {c} p q r) = decoded3 a b c (omega arith, omega arith) (omega arith, omega arith) r (λ h. q.0) (λ h. absurd (omega arith))
decoded (row4 {a} {b} {c} p q r) = decoded3 a b c (omega arith, omega arith) q r (λ h. absurd (omega arith)) (λ h. absurd (omega arith))
decoded (row5 {a} {b} {c} p q r) = decoded3 a b c (omega arith, omega arith) (omega arith, omega arith) r (λ h. absurd (omega arith)) (λ h. q.1)
decoded (row6 {a} {b} {c} p q r) = decoded3 a b c (omega arith, omega arith) q r (λ h. absurd (omega arith)) (λ h. absurd (omega arith))
decoded (row7 {a} {b} {c} {d} p q r u) = decoded4 a b c d (omega arith, omega arith) (omega arith, omega arith) r u (λ h. q.0) (λ h. absurd (omega arith))
decoded (row8 {a} {b} {c} {d} p q r u) = decoded4 a b c d (omega arith, omega arith) q r u (λ h. absurd (omega arith)) (λ h. absurd (omega arith))
decoded (row9 {a} {b} {c} {d} p q r u) = decoded4 a b c d (omega arith, omega arith) (omega arith, omega arith) r u (λ h. absurd (omega arith)) (λ h. q.1)

utf8_sequence : {s : List ℕ} → Sequence s → IsUtf8 s
utf8_sequence q = let d = decoded q in subst IsUtf8 d.1.1 (IsUtf8-encode d.0 d.1.0)

utf8_joined : (ss : List (List ℕ)) → All Sequence ss → IsUtf8 (flat_map (λ x. x) ss)
utf8_joined [] a = IsUtf8-nil
utf8_joined (s ∷ ss) a = IsUtf8-append s (flat_map (λ x. x) ss) (utf8_sequence (All-head Sequence s ss a)) (utf8_joined ss (All-tail Sequence s ss a))

pub to_utf8 : (text : List ℕ) → WellFormed text → IsUtf8 text
to_utf8 text (ss, p) = subst IsUtf8 p.whole (utf8_joined ss p.each)
