-- What a glance tells, by the cipher's number: the words behind the state's own and those that are kept for a change follow each other, so both are zero where all of them are; and what is
-- asked besides is the cipher's own. Where it is told of a line at a position within the limit, the line passes.
-- Assumes nothing.
use mathlib.Core.Path.{◌≡◌, refl, ap, sym, subst, ◌∙◌}
use mathlib.Core.Bool.{Bool, true, false}
use mathlib.Core.List.{List}
use Prim.Native.Nat.{ℕ, ◌+◌, ◌^◌, ◌<◌, min}
use native.Mathlib.Omega.{arith}
use lib.Dec.{eqb, leb}
use lib.ListN.{length, get_or, take, drop}
use borrow.Author.Tests.{ne_eqb, leb-true}
use Rattle.words.specs.Lists.{tab}
use Rattle.words.specs.Tests.{both, pick}
use Rattle.words.proofs.Registers.{listed}
use Rattle.words.proofs.Tests.{both_left, both_right, both_true, both_false}
use Rattle.card_sizes.specs.Sizes.{state_words, head_words, due_at, line_size}
use Rattle.command.specs.declared.Cipher.{Cipher}
use Rattle.command.specs.declared.Cipher.TheVariants.{Zuc, Rabbit, Snow128, Snow256, Kcipher2, Mugi}
use Rattle.command.specs.declared.Refusal.{Refusal}
use Rattle.std.specs.Prelude.{Result, Ok, Err}
use Rattle.command.specs.Decode.{read_of}
use Rattle.ciphers.specs.Table.{cipher_at, is_cipher, is_zero, all_zero, zeros_from, are_cells, zuc, rabbit, snow128, snow256, kcipher2, mugi}
use Rattle.ciphers.proofs.Numbers.{Reads, reads, reads_none, byte_reads}
use Rattle.machine.specs.Machine.{limit, state_ok, open_ok, line_ok}
use Rattle.card_admits.proofs.Walks.{all_join, both-last}
use Rattle.card_line.specs.Words.{line_in, line_words}
use Rattle.card_line.proofs.Lines.{zero-line, no_line, open-line, line-held}
use Rattle.card_checks.specs.Glances.{glanced}
use Rattle.card_checks.proofs.Changes.{none-waits, none-low}
use Rattle.card_checks.proofs.Walks.{no-more}

-- ---- tests in another order

after : (a z k : Bool) → both (both a z) k ≡ both (both z k) a
after true z k = sym (both-last (both z k))
after false z k = sym (both_false (both z k) false refl)

after_two : (a s z k : Bool) → both (both a (both s z)) k ≡ both (both z k) (both s a)
after_two a true z k = after a z k
after_two a false z k = ap (λ (b : Bool). both b k) (both_false a false refl) ∙ sym (both_false (both z k) false refl)

-- ---- what is looked at

-- the words behind a state of eighteen, to the end
abbrev rest : List ℕ → Bool
rest ws = all_zero (take 60 (drop 22 ws))

-- what is asked besides of a cipher whose number is neither 5 nor 6
abbrev own : ℕ → List ℕ → Bool
own c ws =
    pick (eqb c 3) true (pick (eqb c 1) (are_cells (take 16 (take state_words (drop head_words ws)))) (pick (eqb c 2) (both (eqb (get_or ws 21 0) 0)
    (pick (eqb (get_or ws 20 0) 0) true (eqb (get_or ws 20 0) 16777216))) (eqb c 4)))

-- the words of a line as a table
module _ (f : ℕ → ℕ) where
  abbrev ws : List ℕ
  ws = tab line_size f

  abbrev state : List ℕ
  state = tab state_words (λ k. f (head_words + k))

  abbrev kept : List ℕ
  kept = take 40 (drop due_at ws)

  mugi-by : all_zero kept ≡ glanced 6 ws
  unfolding glanced cipher_at mugi
  mugi-by = refl

  kcipher2-by : all_zero (take 58 (drop 24 ws)) ≡ glanced 5 ws
  unfolding glanced cipher_at kcipher2 line_in
  kcipher2-by = all_join is_zero (drop 20 state) kept

  -- the others
  abbrev Others : ℕ → Type 0
  Others c = both (rest ws) (own c ws) ≡ glanced c ws

  behind : (b : Bool) → both (rest ws) b ≡ both (both (zeros_from 18 state) (all_zero kept)) b
  behind b = ap (λ (x : Bool). both x b) (all_join is_zero (drop 18 state) kept)

  zuc-by : Others 1
  unfolding glanced cipher_at zuc line_in
  zuc-by = behind (are_cells (take 16 state)) ∙ sym (after (are_cells (take 16 state)) (zeros_from 18 state) (all_zero kept))

  rabbit-by : Others 2
  unfolding glanced cipher_at rabbit line_in
  rabbit-by =
      let carries : Bool = pick (eqb (f 20) 0) true (eqb (f 20) 16777216) in
      behind (both (eqb (f 21) 0) carries) ∙ sym (after_two carries (eqb (f 21) 0) (zeros_from 18 state) (all_zero kept))

  snow128-by : Others 3
  unfolding glanced cipher_at snow128 line_in
  snow128-by = behind true ∙ both-last (both (zeros_from 18 state) (all_zero kept))

  snow256-by : Others 4
  unfolding glanced cipher_at snow256 line_in
  snow256-by = behind true ∙ both-last (both (zeros_from 18 state) (all_zero kept))

  none-by : (c : ℕ) → is_cipher c ≡ false → Others c
  unfolding glanced
  none-by c h =
      let no : (k : ℕ) → is_cipher k ≡ true → eqb c k ≡ false = λ k t. ne_eqb c k (λ z. no-more (sym h ∙ ap is_cipher z ∙ t)) in
      let nothing : own c ws ≡ false = rw (no 3 refl, no 1 refl, no 2 refl) (no 4 refl) in
      both_false (rest ws) (own c ws) nothing ∙ sym (ap (λ (b : Bool). both b (both ((cipher_at c).admits (line_in ws).words) (all_zero kept))) h)

  others_by : (c : ℕ) → (c ≡ 6 → ⊥) → (c ≡ 5 → ⊥) → Others c
  others_by c p q = by (read_of c) (byte_reads c)
    where
      by : (d : Result Cipher Refusal) → Reads c d → Others c
      by (Ok Zuc) (reads e t) = subst Others (sym e) zuc-by
      by (Ok Rabbit) (reads e t) = subst Others (sym e) rabbit-by
      by (Ok Snow128) (reads e t) = subst Others (sym e) snow128-by
      by (Ok Snow256) (reads e t) = subst Others (sym e) snow256-by
      by (Ok Kcipher2) (reads e t) = absurd (q e)
      by (Ok Mugi) (reads e t) = absurd (p e)
      by (Err _) (reads_none h) = none-by c h

module _ (ws : List ℕ) (size : length ws ≡ line_size) where
  -- what holds of the words as a table holds of them
  of : (P : List ℕ → Type 0) → ((f : ℕ → ℕ) → P (tab line_size f)) → P ws
  of P h = subst P (sym (listed line_size ws size)) (h (λ k. get_or ws k 0))

  pub glanced-mugi : (c : ℕ) → c ≡ 6 → all_zero (take 40 (drop due_at ws)) ≡ glanced c ws
  glanced-mugi c e = of (λ (x : List ℕ). all_zero (take 40 (drop due_at x)) ≡ glanced 6 x) mugi-by ∙ sym (ap (λ (k : ℕ). glanced k ws) e)

  pub glanced-kcipher2 : (c : ℕ) → c ≡ 5 → all_zero (take 58 (drop 24 ws)) ≡ glanced c ws
  glanced-kcipher2 c e = of (λ (x : List ℕ). all_zero (take 58 (drop 24 x)) ≡ glanced 5 x) kcipher2-by ∙ sym (ap (λ (k : ℕ). glanced k ws) e)

  -- of the others, by what is found of the words behind the state
  module _ (c : ℕ) (p : c ≡ 6 → ⊥) (q : c ≡ 5 → ⊥) where
    by-rest : (b : Bool) → all_zero (take 60 (drop 22 ws)) ≡ b → both b (own c ws) ≡ glanced c ws
    by-rest b h = ap (λ (x : Bool). both x (own c ws)) (sym h) ∙ of (λ (x : List ℕ). both (rest x) (own c x) ≡ glanced c x) (λ f. others_by f c p q)

    pub glanced-not : all_zero (take 60 (drop 22 ws)) ≡ false → false ≡ glanced c ws
    glanced-not h = by-rest false h

    module _ (h : all_zero (take 60 (drop 22 ws)) ≡ true) where
      by_number : (k : ℕ) → c ≡ k → own k ws ≡ glanced c ws
      by_number k e = ap (λ (x : ℕ). own x ws) (sym e) ∙ by-rest true h

      pub glanced-snow128 : c ≡ 3 → true ≡ glanced c ws
      glanced-snow128 e = by_number 3 e

      pub glanced-zuc : c ≡ 1 → are_cells (take 16 (take state_words (drop head_words ws))) ≡ glanced c ws
      glanced-zuc e = by_number 1 e

      pub glanced-rabbit : c ≡ 2 → {b : Bool} → eqb (get_or ws 21 0) 0 ≡ b → both b (pick (eqb (get_or ws 20 0) 0) true (eqb (get_or ws 20 0) 16777216)) ≡ glanced c ws
      glanced-rabbit e s = ap (λ (b : Bool). both b (pick (eqb (get_or ws 20 0) 0) true (eqb (get_or ws 20 0) 16777216))) (sym s) ∙ by_number 2 e

      pub glanced-snow256 : (c ≡ 3 → ⊥) → (c ≡ 1 → ⊥) → (c ≡ 2 → ⊥) → eqb c 4 ≡ glanced c ws
      glanced-snow256 x y z =
          let e : own c ws ≡ eqb c 4 = rw (ne_eqb c 3 x, ne_eqb c 1 y, ne_eqb c 2 z) in
          sym e ∙ by-rest true h

  -- an open line of which all this is told passes
  pub seen-line : get_or ws 0 0 ≡ 1 → get_or ws 3 0 < 2 ^ 32 → both (leb (line_in ws).n limit) (glanced (get_or ws 1 0) ws) ≡ true → (line_ok (line_in ws) ≡ true) × (line_words (line_in ws) ≡ ws)
  unfolding glanced open_ok state_ok line_in
  seen-line m l s =
      let c : ℕ = get_or ws 1 0 in
      let admitted : Bool = (cipher_at c).admits (line_in ws).words in
      let quiet : Bool = all_zero (take 40 (drop due_at ws)) in
      let g : both (is_cipher c) (both admitted quiet) ≡ true = both_right (leb (line_in ws).n limit) (glanced c ws) s in
      let known = both_left (is_cipher c) (both admitted quiet) g in
      let r = both_right (is_cipher c) (both admitted quiet) g in
      let z = both_right admitted quiet r in
      let h = leb-true c 6 (both_right (leb 1 c) (leb c 6) known) in
      let e : c ≡ min c 255 = omega (arith, h) in
      let image : state_ok (line_in ws).cipher (line_in ws).n (line_in ws).words ≡ true =
      sym (ap (λ (x : ℕ). state_ok x (line_in ws).n (line_in ws).words) e) ∙ both_true known (both_true (both_left (leb (line_in ws).n limit) (glanced c ws) s) (both_left admitted quiet r)) in
      let ok : line_ok (line_in ws) ≡ true = sym (open-line ws m) ∙ both_true image (sym (none-waits ws size (line_in ws).cipher (line_in ws).n z)) in
      (ok, line-held ws size l (none-low ws size z) ok)

-- an idle line's words
pub idle-line : (ws : List ℕ) → length ws ≡ line_size → get_or ws 0 0 ≡ 0 → (b : Bool) → b ≡ all_zero ws → (b ≡ line_ok (line_in ws)) × (b ≡ true → line_words (line_in ws) ≡ ws)
idle-line ws n m true e = let z = zero-line ws n (sym e) in (sym z.0, λ _. z.1)
idle-line ws n m false e = (no_line ws n (λ _. sym e) (λ q. omega (arith, m, q)) (λ q. omega (arith, m, q)), no-more)
