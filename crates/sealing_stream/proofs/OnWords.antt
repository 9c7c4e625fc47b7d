-- A walk whose words are borrowed: it stands where they stand, and leaves in them what it holds behind, which is fit, since each state of a keystream is whose start is.
-- Assumes nothing.
use mathlib.Core.Path.{◌≡◌, refl, ap, sym, subst, ◌∙◌}
use mathlib.Core.List.{List}
use Prim.Native.Nat.{ℕ, ◌+◌, ◌*◌, ◌/◌, ◌%◌}
use native.Mathlib.Nat.{div-eq_of_lt, mod-eq_of_lt, mod-lt, zero-div}
use native.Mathlib.Omega.{arith}
use lib.ListN.{length}
use Rattle.std.specs.Prelude.{Option, unwrap_or}
use Rattle.std.specs.Prelude.Option.{None, Some}
use Rattle.keystream.specs.Stream.{state_at}
use Rattle.keystream.proofs.Laws.{state_at-here}
use Rattle.ciphers.specs.Table.{cipher_at}
use Rattle.ciphers.specs.Fit.{Fit}
use Rattle.ciphers.proofs.Sound.{sound}
use Rattle.multi_s01.specs.Stream.{tries}
use Rattle.sealing_stream.specs.declared.Walk.{Walk}
use Rattle.sealing_stream.specs.declared.Found.{Found}
use Rattle.sealing_stream.specs.Walk as walk
use Rattle.sealing_stream.specs.OnWords.{At, CryptsOn, ReadsNext, Finds, Lent}
use Rattle.sealing_stream.proofs.Walks.{fit_on}

fit-behind : (c : ℕ) (s : List ℕ) (n : ℕ) (v : Walk) → Fit (cipher_at c) s → walk.At c s n v → Fit (cipher_at c) v.words
fit-behind c s n v h a = subst (λ (x : List ℕ). Fit (cipher_at c) x) (sym a.state) (fit_on c s (n / (cipher_at c).gen.unit) h)

module _ (c : ℕ) (w w' : List ℕ) (n : ℕ) (v v' : Walk) (lent : Lent c w n v) (left : w' ≡ v'.words) (fit : Fit (cipher_at c) w) where
  enter : (s : List ℕ) → At c s n w → walk.At c s n v
  enter s a = record { cipher = lent.cipher; state = lent.words ∙ a.state; place = lent.skip }

  -- in the keystream of its own words
  here : walk.At c w (n % (cipher_at c).gen.unit) v
  here =
      let g = (cipher_at c).gen in
      let pos = (sound c).unit-pos in
      let h = mod-lt n pos in
      record {
        cipher = lent.cipher;
        state = lent.words ∙ sym (ap (state_at g w 0) (div-eq_of_lt h) ∙ state_at-here g pos w 0);
        place = lent.skip ∙ sym (mod-eq_of_lt h);
      }

  -- the words that it leaves
  fit-left : Fit (cipher_at c) v'.words → Fit (cipher_at c) w'
  fit-left h = subst (λ (x : List ℕ). Fit (cipher_at c) x) (sym left) h

  leave : (s : List ℕ) (m : ℕ) → Fit (cipher_at c) v'.words → walk.At c s m v' → At c s m w'
  leave s m h a = record { fit = fit-left h; state = left ∙ a.state }

  pub crypts-on : {text out out' : List ℕ} → walk.CryptsOn v text out v' out' → CryptsOn c n w text out w' out'
  crypts-on {text} r =
      let u = (cipher_at c).gen.unit in
      let h = fit-behind c w (n % u + length text) v' fit (r.crypted c w (n % u) here).stands in
      record { crypted = λ s a. let d = r.crypted c s n (enter s a) in record { stands = leave s (n + length text) h d.stands; bytes = d.bytes }; fit = fit-left h }

pub reads-next : (c : ℕ) (w w' : List ℕ) (i : ℕ) {x : ℕ} (v v' : Walk) → Lent c w (8 * i) v → w' ≡ v'.words → Fit (cipher_at c) w → walk.ReadsNext v x v' → ReadsNext c i w x w'
reads-next c w w' i v v' lent left fit r =
    let n = 8 * i in
    let k = n % (cipher_at c).gen.unit in
    let h = fit-behind c w (k + 8) v' fit (r.on c w k (here c w w' n v v' lent left fit)) in
    record {
      read = λ s a.
          let d = r.read c s i (enter c w w' n v v' lent left fit s a) in
          record { stands = leave c w w' n v v' lent left fit s (8 * (i + 1)) h d.stands; block = d.block };
      fit = fit-left c w w' n v v' lent left fit h;
    }

-- the start of the keystream
start : (c : ℕ) (w : List ℕ) → Fit (cipher_at c) w → At c w 0 w
start c w h = let g = (cipher_at c).gen in record { fit = h; state = sym (ap (state_at g w 0) (zero-div g.unit) ∙ state_at-here g (sound c).unit-pos w 0) }

pub finds-first : (c : ℕ) (w w' : List ℕ) (v v' : Walk) (r : Option Found) → Lent c w 0 v → w' ≡ v'.words → Fit (cipher_at c) w → walk.Finds v r v'
    → Finds c w (unwrap_or r (record { t = tries; a = 0 })).t (unwrap_or r (record { t = tries; a = 0 })).a w'
finds-first c w w' v v' None lent left fit r =
    let d = r.found c w (enter c w w' 0 v v' lent left fit w (start c w fit)) in
    record {
      found = record { index = sym d.0; stands = λ q. absurd (omega arith); block = λ q. absurd (omega arith) };
      fit = fit-left c w w' 0 v v' lent left fit (fit-behind c w (8 * tries) v' fit d.1);
    }
finds-first c w w' v v' (Some f) lent left fit r =
    let d = r.found c w (enter c w w' 0 v v' lent left fit w (start c w fit)) in
    let h = fit-behind c w (8 * (f.t + 1)) v' fit d.stands in
    record {
      found = record { index = d.index; stands = λ _. leave c w w' 0 v v' lent left fit w (8 * (f.t + 1)) h d.stands; block = λ _. d.block };
      fit = fit-left c w w' 0 v v' lent left fit h;
    }
