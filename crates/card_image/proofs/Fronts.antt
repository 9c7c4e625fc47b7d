-- An image goes to a buffer part by part: the cipher's byte, the position, the line that parks, its number and the words of the state, each behind the one before it.
-- Assumes nothing.
use mathlib.Core.Path.{◌≡◌, refl, ap, ap₂, sym, ◌∙◌}
use mathlib.Core.List.{List, [], ◌∷◌, ◌++◌}
use Prim.Native.Nat.{ℕ, ◌-◌, ◌*◌, ◌/◌, ◌%◌, ◌^◌, ◌<◌, ◌≤◌}
use native.Mathlib.Omega.{arith}
use borrow.Rule.Slice.PartMut.{put_mid}
use lib.ListN.{length, take, drop, set}
use Rattle.words.specs.Strings.{bytes_of}
use Rattle.buffer.proofs.Fronts.{Front, front-byte, front-store, front-more}
use Rattle.card_sizes.specs.Sizes.{line_count, image_length}
use Rattle.card_spelt.proofs.Fronts.{spelt-length, front-word}
use Rattle.ciphers.specs.States.{spelt}
use Rattle.machine.specs.Machine.{image_of}
use Rattle.machine.proofs.Fields.{image-spelt}
use Rattle.card_line.specs.Words.{line_in, line_words, LineHeld}
use Rattle.card_line.proofs.Lines.{state-slice}

joined : (c a b i k : ℕ) (w : List ℕ) → ((((c ∷ []) ++ spelt (a ∷ b ∷ [])) ++ (i ∷ [])) ++ bytes_of k) ++ spelt w ≡ c ∷ (spelt (a ∷ b ∷ []) ++ (i ∷ spelt (k ∷ w)))
unfolding bytes_of
joined c a b i k w = refl

small : (ws : List ℕ) → (line_in ws).cipher < 2 ^ 8
unfolding line_in
small ws = omega arith

full : (ws : List ℕ) → length (line_in ws).words ≡ 38
unfolding line_in
full ws = refl

module _ (ws : List ℕ) (held : LineHeld ws) (before : List ℕ) (fits : image_length ≤ length before) where
  place : take 2 (drop 2 ws) ≡ (line_in ws).n / 2 ^ 32 ∷ (line_in ws).n % 2 ^ 32 ∷ []
  unfolding line_words
  place = ap (λ (x : List ℕ). take 2 (drop 2 x)) (sym held.words)

  state : take 38 (drop 4 ws) ≡ (line_in ws).words
  state = state-slice ws held.size

  pub place-length : length (take 2 (drop 2 ws)) ≡ 2
  place-length = ap length place

  pub state-length : length (take 38 (drop 4 ws)) ≡ 38
  state-length = ap length state ∙ full ws

  pub front-1 : (c : ℕ) → Front (c ∷ []) before (set before 0 c) 1
  front-1 c = front-byte c before (omega arith)

  pub front-place : (c : ℕ) (ys : List ℕ) →
      ys ≡ spelt (take 2 (drop 2 ws)) ++ drop (4 * length (take 2 (drop 2 ws))) (take (length (set before 0 c) - 1) (drop 1 (set before 0 c))) →
      Front ((c ∷ []) ++ spelt (take 2 (drop 2 ws))) before (put_mid 1 (length (set before 0 c) - 1) (set before 0 c) ys) 9
  front-place c ys q =
      let rest : List ℕ = take (length (set before 0 c) - 1) (drop 1 (set before 0 c)) in
      let part = take 2 (drop 2 ws) in
      front-more (spelt part) ys 8 (spelt-length part ∙ ap (λ (k : ℕ). 4 * k) place-length) (omega arith) (front-1 c)
      (q ∙ ap (λ (k : ℕ). spelt part ++ drop (4 * k) rest) place-length)

  pub front-from : {p out : List ℕ} (i : ℕ) → Front p before out 9 → Front (p ++ (i ∷ [])) before (set out 9 i) 10
  front-from i f = front-store i (omega arith) f

  pub front-number : {p out : List ℕ} (k : ℕ) (ys : List ℕ) → Front p before out 10 → ys ≡ bytes_of k ++ drop 4 (take (length out - 10) (drop 10 out)) →
      Front (p ++ bytes_of k) before (put_mid 10 (length out - 10) out ys) 14
  front-number k ys f e = front-word k ys (omega arith) f e

  pub front-state : {p out : List ℕ} (ys : List ℕ) → Front p before out 14 → ys ≡ spelt (take 38 (drop 4 ws)) ++ drop (4 * length (take 38 (drop 4 ws))) (take (length out - 14) (drop 14 out)) →
      Front (p ++ spelt (take 38 (drop 4 ws))) before (put_mid 14 (length out - 14) out ys) image_length
  front-state {p} {out} ys f q =
      let rest : List ℕ = take (length out - 14) (drop 14 out) in
      front-more (spelt (take 38 (drop 4 ws))) ys 152 (spelt-length (take 38 (drop 4 ws)) ∙ ap (λ (k : ℕ). 4 * k) state-length) (omega arith) f
      (q ∙ ap (λ (k : ℕ). spelt (take 38 (drop 4 ws)) ++ drop (4 * k) rest) state-length)

  pub parts-image : (c i k : ℕ) → c ≡ (line_in ws).cipher → i < line_count →
      ((((c ∷ []) ++ spelt (take 2 (drop 2 ws))) ++ (i ∷ [])) ++ bytes_of k) ++ spelt (take 38 (drop 4 ws)) ≡ image_of i k (line_in ws)
  parts-image c i k e b =
      ap₂ (λ (x y : List ℕ). ((((c ∷ []) ++ spelt x) ++ (i ∷ [])) ++ bytes_of k) ++ spelt y) place state
      ∙ joined c ((line_in ws).n / 2 ^ 32) ((line_in ws).n % 2 ^ 32) i k (line_in ws).words
      ∙ ap (λ (x : ℕ). x ∷ (spelt ((line_in ws).n / 2 ^ 32 ∷ (line_in ws).n % 2 ^ 32 ∷ []) ++ (i ∷ spelt (k ∷ (line_in ws).words)))) e
      ∙ sym (image-spelt i k (line_in ws) (omega (arith, b)) (small ws) (full ws))
