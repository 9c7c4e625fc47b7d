-- A table that is put to a buffer entry by entry: those that stand there and those that are left are all of it, and each takes w + 1 bytes.
-- Assumes nothing.
use mathlib.Core.Path.{◌≡◌, refl, ap, ap₂, sym, ◌∙◌, subst}
use mathlib.Core.List.{List, [], ◌∷◌, ◌++◌, append_assoc}
use Prim.Native.Nat.{ℕ, zero, suc, ◌+◌, ◌-◌, ◌*◌, ◌<◌, ◌≤◌}
use native.Mathlib.Nat.{suc-mul, zero-mul, add_comm}
use native.Mathlib.Numerals.{add-one}
use native.Mathlib.Omega.{arith}
use lib.ListN.{length, get_or, take, drop, length-append}
use lib.Seq.{drop-cons, drop-length}
use Rattle.text.specs.Text.{Behind, Room, Written}
use Rattle.text.specs.declared.Text.{Text}
use Rattle.text.proofs.Pieces.{Gathering, gather_none, gather-more, gather-all, gather-length, behind-length, written-more}
use Rattle.hex_text.specs.Hex.{hexadecimal}
use Rattle.hex_text.proofs.Digits.{digits-count}
use Rattle.tables_text.specs.Tables.{behind_entry, entry_text, entries_from, table_text}

-- ---- how long they are

pub entry_length : (w x e : ℕ) → length (entry_text w x e) ≡ w + 1
entry_length w x e = length-append (hexadecimal w x) (e ∷ []) ∙ ap (λ (k : ℕ). k + 1) (digits-count w x)

entries-length : (w i : ℕ) (t : List ℕ) → length (entries_from w i t) ≡ length t * (w + 1)
unfolding entries_from
entries-length w i [] = sym (zero-mul (w + 1))
entries-length w i (x ∷ t) =
    length-append (entry_text w x (behind_entry i)) (entries_from w (suc i) t)
    ∙ ap₂ ◌+◌ (entry_length w x (behind_entry i)) (entries-length w (suc i) t)
    ∙ sym (suc-mul (length t) (w + 1) ∙ add_comm (length t * (w + 1)) (w + 1))

-- ---- an entry

-- the digits that fill w places, and the byte behind them
pub entry-put : (w n e : ℕ) (places : List ℕ) {digits : List ℕ} {a b c : Text} → length places ≡ w → digits ≡ hexadecimal (length places) n →
    Written digits a b → Written (e ∷ []) b c → Written (entry_text w n e) a c
entry-put w n e places {a = a} {c = c} l d p q =
    subst (λ (x : List ℕ). Written (x ++ (e ∷ [])) a c) (d ∙ ap (λ (k : ℕ). hexadecimal k n) l) (written-more p q)

-- ---- entry by entry

entry_next : (w i : ℕ) (t : List ℕ) → i < length t →
    entries_from w i (drop i t) ≡ entry_text w (get_or t i 0) (behind_entry i) ++ entries_from w (i + 1) (drop (i + 1) t)
unfolding entries_from
entry_next w i t h =
    ap (entries_from w i) (drop-cons t i 0 h) ∙ ap (λ (k : ℕ). entry_text w (get_or t i 0) (behind_entry i) ++ entries_from w k (drop k t)) (sym (add-one i))

-- of t's entries, the first i were put behind the text a, and there was room for all
pub record Putting (w : ℕ) (t : List ℕ) (a : Text) (i : ℕ) (b : Text) : Type 0 where
  pub room : a.len + length t * (w + 1) ≤ length a.out.now
  pub same : b.out.ghost_name ≡ a.out.ghost_name
  pub gathered : Gathering (table_text w t) (entries_from w i (drop i t)) a.len a.out.now b.out.now b.len

pub putting-none : {w : ℕ} {t : List ℕ} {a : Text} → Room (length t * (w + 1)) a → Putting w t a 0 a
putting-none room = record { room = room; same = refl; gathered = gather_none (omega arith) }

module _ {w : ℕ} {t : List ℕ} {a : Text} {i : ℕ} {b : Text} (p : Putting w t a i b) where
  pub putting-room : i < length t → Room (w + 1) b
  putting-room h =
      let e = ap length (entry_next w i t h) ∙ length-append (entry_text w (get_or t i 0) (behind_entry i)) (entries_from w (i + 1) (drop (i + 1) t)) in
      let n = entry_length w (get_or t i 0) (behind_entry i) in
      let s = gather-length p.gathered in
      let m = entries-length w 0 t in
      let same = behind-length p.gathered.behind in
      let r = p.room in
      omega arith

  pub putting-more : {x : ℕ} {c : Text} → i < length t → x ≡ behind_entry i → Written (entry_text w (get_or t i 0) x) b c → Putting w t a (i + 1) c
  putting-more {c = c} h f v =
      record {
        room = p.room;
        same = v.same ∙ p.same;
        gathered =
            gather-more (subst (λ (l : List ℕ). Gathering (table_text w t) l a.len a.out.now b.out.now b.len) (entry_next w i t h) p.gathered)
            (subst (λ (y : ℕ). Behind (entry_text w (get_or t i 0) y) b.len b.out.now c.out.now c.len) f v.behind);
      }

  pub putting-all : length t ≤ i → i ≤ length t → Written (table_text w t) a b
  unfolding entries_from
  putting-all h k =
      let e : i ≡ length t = omega arith in
      record {
        same = p.same;
        behind = gather-all (subst (λ (l : List ℕ). Gathering (table_text w t) (entries_from w i l) a.len a.out.now b.out.now b.len) (ap (λ (j : ℕ). drop j t) e ∙ drop-length t) p.gathered);
      }

-- room for k bytes more behind a table
pub table-room : (w : ℕ) (t : List ℕ) {a b : Text} → Written (table_text w t) a b → length t ≡ 256 → (k : ℕ) → Room (256 * (w + 1) + k) a → Room k b
table-room w t v l k h =
    let e = v.behind.end in
    let n = behind-length v.behind in
    let m = entries-length w 0 t ∙ ap (λ (x : ℕ). x * (w + 1)) l in
    omega arith

-- where it ends
pub table-end : (w : ℕ) (t : List ℕ) {a b : Text} → Written (table_text w t) a b → length t ≡ 256 → b.len ≡ a.len + 256 * (w + 1)
table-end w t {a = a} v l = v.behind.end ∙ ap (λ (k : ℕ). a.len + k) (entries-length w 0 t ∙ ap (λ (x : ℕ). x * (w + 1)) l)
