-- The pair on prepared keystreams: the blocks by computation, the search for the multiplier by its laws.
-- Assumes nothing.
use mathlib.Core.Path.{◌≡◌, refl, ap, ◌∙◌}
use mathlib.Core.List.{List}
use Prim.Native.Nat.{ℕ, zero, suc, ◌<◌}
use native.Mathlib.Nat.{not-suc-le-zero, le_of_suc-le-suc}
use native.Mathlib.Omega.{arith}
use borrow.Author.Tests.{ne_eqb}
use lib.Dec.{lit<}
use Rattle.words.specs.Strings.{word_at, bytes_of}
use Rattle.words.specs.Tests.{pick}
use Rattle.gf64.specs.Gf64.{mul}
use Rattle.blocks.specs.Blocks.{block_at, spell, blocks_of}
use Rattle.multi_s01.specs.Multi as S
use Rattle.sealing_rules.specs.Sealing.{refused, accepted, sealed_with, seal_by, open_by}
use Rattle.sealing_rules.specs.Clause.{Multiplier}
use Rattle.sealing_rules.proofs.Accepts.{seal-by, none-found-seal, none-found-open}
use Rattle.sealing_edges.specs.Table.{redundancy, message}
use Rattle.sealing_edges.specs.Prepared.{third, one_at, over_third, over_one}

-- 1 is elsewhere
zero-at : (t i : ℕ) → (i ≡ t → ⊥) → one_at t i ≡ 0
zero-at t i n = ap (λ b. pick b 1 0) (ne_eqb i t n)

below : (t i : ℕ) → i < t → i ≡ t → ⊥
below t i q e = omega arith

-- ---- behind two blocks of zeros

third-multiplies : Multiplier third 2
third-multiplies = record { tried = lit< tt; not-zero = λ e. not_third e; lowest = two }
  where
    not_third : ◌≡◌ {A = ℕ} (third 2) 0 → ⊥
    not_third e = let z : ◌≡◌ {A = ℕ} 0x0202020202020202 0 = e in omega arith

    two : (i : ℕ) → i < 2 → third i ≡ 0
    two zero q = refl
    two (suc zero) q = refl
    two (suc (suc i)) q = absurd (not-suc-le-zero (le_of_suc-le-suc (le_of_suc-le-suc q)))

third-bytes : sealed_with third 2 redundancy message ≡ over_third
unfolding sealed_with S.sealed mul blocks_of spell bytes_of block_at word_at
third-bytes = refl

pub sealed-over-third : seal_by third redundancy message ≡ accepted over_third
sealed-over-third = seal-by redundancy message third-multiplies ∙ ap accepted third-bytes

-- ---- at the last block that is tried

last-multiplies : Multiplier (one_at 4095) 4095
last-multiplies = record { tried = lit< tt; not-zero = λ e. (let z : ◌≡◌ {A = ℕ} 1 0 = e in omega arith); lowest = λ i q. zero-at 4095 i (below 4095 i q) }

last-bytes : sealed_with (one_at 4095) 4095 redundancy message ≡ over_one
unfolding sealed_with S.sealed mul blocks_of spell bytes_of block_at word_at
last-bytes = refl

pub sealed-over-last : seal_by (one_at 4095) redundancy message ≡ accepted over_one
sealed-over-last = seal-by redundancy message last-multiplies ∙ ap accepted last-bytes

-- ---- behind all that are tried

pub not-sealed : (r m : List ℕ) → seal_by (one_at 4096) r m ≡ refused 24
not-sealed r m = none-found-seal r m (λ i q. zero-at 4096 i (below 4096 i q))

pub not_opened : (r s : List ℕ) → open_by (one_at 4096) r s ≡ refused 24
not_opened r s = none-found-open r s (λ i q. zero-at 4096 i (below 4096 i q))
