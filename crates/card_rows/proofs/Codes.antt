-- The numbers of the rows that go by numbers alone: what holds where each is given, and where none is.
-- Assumes nothing.
use mathlib.Core.Path.{◌≡◌}
use mathlib.Core.Bool.{true, false}
use Prim.Native.Nat.{ℕ, ◌+◌, ◌*◌, ◌%◌, ◌<◌, ◌≤◌}
use lib.Dec.{ltb, leb, eqb}
use borrow.Author.Tests.{lt-ltb, le-ltb, ltb-false, lt-leb, le-leb, eq-eqb, ne_eqb, eqb-true, not-false}
use Rattle.words.proofs.Tests.{both_false}
use Rattle.card_sizes.specs.Sizes.{limit, key_length, full_tray}
use Rattle.command.specs.Rows.{code_of}
use Rattle.command.proofs.Rows.{either_left, code-passed}
use Rattle.card_moves.specs.Moves.{position_on}
use Rattle.card_rows.specs.Rows.{crypt_rows, park_rows, change_rows, tray_rows}

-- ---- a crypt

module _ (mode n due count text out : ℕ) where
  abbrev crypts : ℕ
  crypts = code_of (crypt_rows mode n due count text out)

  pub shut : (mode ≡ 1 → ⊥) → 6 ≡ crypts
  shut h = rw (ne_eqb mode 1 h)

  pub far : mode ≡ 1 → ltb limit (position_on n due count) ≡ true → 13 ≡ crypts
  far h p = rw (eq-eqb mode 1 h, p)

  pub text-short : mode ≡ 1 → ltb limit (position_on n due count) ≡ false → text < count → 11 ≡ crypts
  text-short h p q = rw (eq-eqb mode 1 h, p, lt-ltb text count q)

  pub out-short : mode ≡ 1 → ltb limit (position_on n due count) ≡ false → count ≤ text → out < count → 12 ≡ crypts
  out-short h p q o = rw (eq-eqb mode 1 h, p, le-ltb text count q, lt-ltb out count o)

  pub taken : mode ≡ 1 → ltb limit (position_on n due count) ≡ false → count ≤ text → count ≤ out → 0 ≡ crypts
  taken h p q o = rw (eq-eqb mode 1 h, p, le-ltb text count q, le-ltb out count o)

-- what a crypt that passes its rows has
pub record CryptPassed (mode n due count text out : ℕ) : Type 0 where
  pub open-line : mode ≡ 1
  pub within : position_on n due count ≤ limit
  pub text_in : count ≤ text
  pub out-in : count ≤ out

pub crypt-passed : (mode n due count text out : ℕ) → code_of (crypt_rows mode n due count text out) ≡ 0 → CryptPassed mode n due count text out
crypt-passed mode n due count text out e =
    let p = code-passed (crypt_rows mode n due count text out) tt e in
    record {
      open-line = eqb-true mode 1 (not-false _ p.0);
      within = ltb-false limit (position_on n due count) p.1.0;
      text_in = ltb-false text count p.1.1.0;
      out-in = ltb-false out count p.1.1.1.0;
    }

-- ---- a park

module _ (mode due : ℕ) where
  pub park-shut : (mode ≡ 1 → ⊥) → 6 ≡ code_of (park_rows mode due)
  park-shut h = rw (ne_eqb mode 1 h)

  pub park-waits : mode ≡ 1 → (due ≡ 0 → ⊥) → 17 ≡ code_of (park_rows mode due)
  park-waits h d = rw (eq-eqb mode 1 h, ne_eqb due 0 d)

  pub park-still : mode ≡ 1 → due ≡ 0 → 0 ≡ code_of (park_rows mode due)
  park-still h d = rw (eq-eqb mode 1 h, eq-eqb due 0 d)

  -- the line is open and nothing waits where no row is given
  pub park-passed : code_of (park_rows mode due) ≡ 0 → (mode ≡ 1) × (due ≡ 0)
  park-passed e =
      let p = code-passed (park_rows mode due) tt e in
      (eqb-true mode 1 (not-false _ p.0), eqb-true due 0 (not-false _ p.1.0))

-- ---- a change

module _ (mode n due p : ℕ) where
  pub change-shut : (mode ≡ 1 → ⊥) → 6 ≡ code_of (change_rows mode n due p)
  change-shut h = rw (ne_eqb mode 1 h)

  pub change-waits : mode ≡ 1 → (due ≡ 0 → ⊥) → 17 ≡ code_of (change_rows mode n due p)
  change-waits h d = rw (eq-eqb mode 1 h, ne_eqb due 0 d)

  pub change-below : mode ≡ 1 → due ≡ 0 → p < n → 18 ≡ code_of (change_rows mode n due p)
  change-below h d q = rw (eq-eqb mode 1 h, eq-eqb due 0 d, lt-ltb p n q)

  pub change-above : mode ≡ 1 → due ≡ 0 → n ≤ p → limit < p → 18 ≡ code_of (change_rows mode n due p)
  change-above h d q o = rw (eq-eqb mode 1 h, eq-eqb due 0 d, le-ltb p n q, lt-ltb limit p o)

  pub change-in : mode ≡ 1 → due ≡ 0 → n ≤ p → p ≤ limit → 0 ≡ code_of (change_rows mode n due p)
  change-in h d q o = rw (eq-eqb mode 1 h, eq-eqb due 0 d, le-ltb p n q, le-ltb limit p o)

-- what a change that passes its rows has
pub record ChangePassed (mode n due p : ℕ) : Type 0 where
  pub open-line : mode ≡ 1
  pub none-due : due ≡ 0
  pub not-below : n ≤ p

pub change-passed : (mode n due p : ℕ) → code_of (change_rows mode n due p) ≡ 0 → ChangePassed mode n due p
change-passed mode n due p e =
    let r = code-passed (change_rows mode n due p) tt e in
    record {
      open-line = eqb-true mode 1 (not-false _ r.0);
      none-due = eqb-true due 0 (not-false _ r.1.0);
      not-below = ltb-false p n (either_left (ltb p n) (ltb limit p) r.1.1.0);
    }

-- ---- a key of the tray

module _ (tray k : ℕ) where
  pub tray-uneven : (tray % key_length ≡ 0 → ⊥) → 9 ≡ code_of (tray_rows tray k)
  tray-uneven p = rw (ne_eqb (tray % key_length) 0 p)

  pub tray-long : full_tray < tray → 9 ≡ code_of (tray_rows tray k)
  tray-long p = rw (both_false (eqb (tray % key_length) 0) (leb tray full_tray) (lt-leb tray full_tray p))

  pub key-missing : tray % key_length ≡ 0 → tray ≤ full_tray → tray < key_length * k + key_length → 10 ≡ code_of (tray_rows tray k)
  key-missing e p q = rw (eq-eqb (tray % key_length) 0 e, le-leb tray full_tray p, lt-ltb tray (key_length * k + key_length) q)

  pub key-there : tray % key_length ≡ 0 → tray ≤ full_tray → key_length * k + key_length ≤ tray → 0 ≡ code_of (tray_rows tray k)
  key-there e p q = rw (eq-eqb (tray % key_length) 0 e, le-leb tray full_tray p, le-ltb tray (key_length * k + key_length) q)

  -- the key is there where no row is given
  pub tray-passed : code_of (tray_rows tray k) ≡ 0 → key_length * k + key_length ≤ tray
  tray-passed e = ltb-false tray (key_length * k + key_length) (code-passed (tray_rows tray k) tt e).1.0
