-- A run of the program, call by call: what is in the buffers and what the calls that are left will put there is, together, what all calls put there. Each call takes the first of those that
-- are left, and at the end none is left.
-- Assumes nothing.
use mathlib.Core.Path.{◌≡◌, refl, ap, ap₂, sym, ◌∙◌, subst}
use mathlib.Core.Bool.{Bool, true, false}
use mathlib.Core.List.{List, [], ◌∷◌, ◌++◌}
use Prim.Native.Nat.{ℕ, zero, suc, ◌+◌, ◌-◌, ◌*◌, ◌<◌, ◌≤◌}
use native.Mathlib.Nat.{not-suc-le-zero, zero-add, add_assoc, min-le_left}
use native.Mathlib.Numerals.{sub-one}
use native.Mathlib.Omega.{arith}
use lib.Dec.{eqb, lit≤}
use lib.ListN.{length, take, drop, length-append, length-take, length-drop}
use lib.Seq.{length-take-le, drop_at, drop-drop}
use borrow.Author.Tests.{eq-eqb, ne_eqb, eqb-true}
use Rattle.words.specs.Tests.{pick}
use Rattle.machine.specs.Machine.{Call, Seen, card_step, fresh_card}
use Rattle.machine.specs.Calls.{Made}
use Rattle.card_line.specs.Words.{line_in}
use Rattle.card_layout.specs.Words.{card_in}
use Rattle.card_outcome.specs.Leaves.{call_of}
use Rattle.card.specs.Ran.{seen_of}
use Rattle.lists.specs.Logs.{did}
use Rattle.text.specs.Text.{Behind, decimal, figure, space, newline}
use Rattle.text.proofs.Digits.{digits-few}
use Rattle.text.proofs.Pieces.{behind-length, behind-rest, behind_more, behind-start, Gathering, gather_none, gather-more, gather-all}
use Rattle.records.specs.Records.{records_of}
use Rattle.records.proofs.Reading.{records-append}
use Rattle.session_table.specs.Table.{columns, call_row, end_of, accepted_of}
use Rattle.session_call.specs.declared.Progress.{Progress}
use Rattle.session_call.specs.Turn.{made, used_by, here, next, Ready, Turned}
use Rattle.session_call.proofs.Bounds.{bounded, code-few}
use Rattle.session_call.proofs.Uses.{record-few}
use Rattle.session.specs.Session.{rest, calls, read_length, written_by, uses_by, records_by, accepted_count, last_code_of, rows_from, table_of, session}
use Rattle.session.specs.Progress.{start_of, Sizes, Finished, RunLeaves}

-- ---- one call of those that are left

calls-none : (n : ℕ) (c : Seen) (a : Call) → length a.command ≡ 0 → calls n c a ≡ []
unfolding calls
calls-none zero c a e = refl
calls-none (suc k) c a e =
    ap (λ (b : Bool). pick b [] (made c a ∷ pick (eqb (made c a).code 0) (calls k (made c a).card (rest a (made c a))) [])) (eq-eqb (length a.command) 0 e)

calls-more : (n : ℕ) (c : Seen) (a : Call) → 0 < n → 0 < length a.command →
    calls n c a ≡ made c a ∷ pick (eqb (made c a).code 0) (calls (n - 1) (made c a).card (rest a (made c a))) []
unfolding calls
calls-more zero c a h q = absurd (not-suc-le-zero h)
calls-more (suc k) c a h q =
    ap (λ (b : Bool). pick b [] (made c a ∷ pick (eqb (made c a).code 0) (calls k (made c a).card (rest a (made c a))) []))
    (ne_eqb (length a.command) 0 (λ e. absurd (let z : length a.command ≡ 0 = e in omega arith)))
    ∙ ap (λ (x : ℕ). made c a ∷ pick (eqb (made c a).code 0) (calls x (made c a).card (rest a (made c a))) []) (sym (sub-one (suc k)))

-- ---- a line of the table takes 32 bytes at most

figure-few : (n e : ℕ) → n < 100000 → length (figure n e) ≤ 6
figure-few n e h = let d : length (decimal n) ≤ 5 = digits-few 4 20 n h in omega (arith, length-append (decimal n) (e ∷ []))

row-few : (i code command text written : ℕ) → i < 100000 → code < 100000 → command < 100000 → text < 100000 → written < 100000 →
    length (call_row i code command text written) ≤ 32
unfolding call_row
row-few i k c d w hi hk hc hd hw =
    let a = figure i space in
    let b = figure k space in
    let e = figure c space in
    let f = figure d space in
    let g = figure w newline in
    omega (
      arith,
      figure-few i space hi,
      figure-few k space hk,
      figure-few c space hc,
      figure-few d space hd,
      figure-few w newline hw,
      length-append a b,
      length-append (a ++ b) e,
      length-append ((a ++ b) ++ e) f,
      length-append (((a ++ b) ++ e) ++ f) g,
    )

accepted-most : (n code : ℕ) → n ≤ accepted_of n code + 1
unfolding accepted_of
accepted-most n code = by (eqb code 0)
  where
    by : (b : Bool) → n ≤ pick b n (n - 1) + 1
    by true = omega arith
    by false = omega arith

module _ (commands tray text out₀ table₀ records₀ : List ℕ) where
  abbrev pub all : List Made
  all = calls read_length fresh_card (record { command = commands; tray = tray; text = text; out = out₀ })

  -- the calls that are left
  unfoldable pub left : Progress → List ℕ → List Made
  left p out = pick (eqb p.code 0) (calls (read_length - p.calls) (seen_of p.card) (here p commands tray text out)) []

  -- what the calls so far have written, and what those that are left will
  pub record Sofar (p : Progress) (out table records : List ℕ) : Type 0 where
    pub command-in : p.command ≤ length commands
    pub text_in : p.«data» ≤ length text
    pub table-in : p.table ≤ 32 * (p.calls + 1)
    pub records-in : p.records ≤ 10 * accepted_of p.calls p.code
    pub used : 2 * accepted_of p.calls p.code ≤ p.command
    pub bytes : Gathering (written_by all) (written_by (left p out)) 0 out₀ out p.out
    pub rows : Gathering (rows_from 1 all) (rows_from (p.calls + 1) (left p out)) 23 table₀ table p.table
    pub noted : Gathering (records_by all) (records_by (left p out)) 0 records₀ records p.records
    pub count : accepted_of p.calls p.code + accepted_count (left p out) ≡ accepted_count all
    pub last_code : last_code_of p.code (left p out) ≡ last_code_of 0 all

  module _ (p : Progress) (out table records : List ℕ) (s : Sofar p out table records) where
    pub out-length : length out ≡ length out₀
    out-length = behind-length s.bytes.behind

    pub table-length : length table ≡ length table₀
    table-length = behind-length s.rows.behind

    pub records-length : length records ≡ length records₀
    records-length = behind-length s.noted.behind

    out-in : p.out ≤ length out
    out-in = omega (arith, s.bytes.behind.fits, out-length)

  module _ (sizes : Sizes commands text out₀ table₀ records₀) (p : Progress) (out table records : List ℕ) (s : Sofar p out table records) (zero-code : p.code ≡ 0) (more : p.command < length commands) where
    abbrev x : Made
    x = next p commands tray text out

    all-accepted : accepted_of p.calls p.code ≡ p.calls
    unfolding accepted_of
    all-accepted = ap (λ (b : Bool). pick b p.calls (p.calls - 1)) (eq-eqb p.code 0 zero-code)

    calls-below : p.calls < 8192
    calls-below = let u = s.used in let e = all-accepted in let f = sizes.commands-few in omega arith

    pub ready : Ready p commands text out table records
    ready =
        let c = calls-below in
        let t = s.table-in in
        let l = table-length p out table records s in
        let r = sizes.table-room in
        let n = s.records-in in
        let m = records-length p out table records s in
        let k = sizes.records-room in
        let e = all-accepted in
        record { command-in = s.command-in; text_in = s.text_in; out-in = out-in p out table records s; row_fits = omega arith; record-fits = omega arith; calls-few = omega arith }

    -- what is lent, and what the call did of it
    abbrev h : Call
    h = here p commands tray text out

    command-left : length h.command ≡ length commands - p.command
    unfolding here
    command-left = length-drop p.command commands

    -- what is behind the bytes that it wrote
    unwritten : drop x.written x.out ≡ drop x.written (drop p.out out)
    unfolding next made here
    unwritten = let w = (card_step (seen_of p.card) h).outcome.output in drop_at w (drop (length w) (drop p.out out)) (length w) refl

    written-fits : length (take x.written x.out) ≡ x.written
    unfolding next made
    written-fits =
        let w = (card_step (seen_of p.card) h).outcome.output in
        length-take-le (length w) (w ++ drop (length w) h.out) (omega (arith, length-append w (drop (length w) h.out)))

    module _ (q : Progress) (out' table' records' : List ℕ) (t : Turned p commands tray text out table records q out' table' records') where
      written_is : q.out ≡ p.out + x.written
      written_is = t.out-is.end ∙ ap (λ (n : ℕ). p.out + n) written-fits

      lent-next : here q commands tray text out' ≡ rest h x
      unfolding here rest
      lent-next =
          let c : drop q.command commands ≡ drop x.used-command (drop p.command commands) =
          ap (λ (n : ℕ). drop n commands) t.command-is ∙ sym (drop-drop x.used-command p.command commands) in
          let d : drop q.«data» text ≡ drop x.used-data (drop p.«data» text) =
          ap (λ (n : ℕ). drop n text) t.text-is ∙ sym (drop-drop x.used-data p.«data» text) in
          let o : drop q.out out' ≡ drop x.written x.out =
          behind-rest t.out-is q.out (omega arith) ∙ ap (λ (n : ℕ). drop n out) written_is ∙ sym (drop-drop x.written p.out out) ∙ sym unwritten in
          λ i. record { command = c i; tray = tray; text = d i; out = o i }

      left_is : left p out ≡ x ∷ left q out'
      unfolding left next
      left_is =
          let n = calls-below in
          let l = command-left in
          let k : read_length - p.calls - 1 ≡ read_length - q.calls = let e = t.calls_is in omega arith in
          ap (λ (b : Bool). pick b (calls (read_length - p.calls) (seen_of p.card) h) []) (eq-eqb p.code 0 zero-code)
          ∙ calls-more (read_length - p.calls) (seen_of p.card) h (omega arith) (omega arith)
          ∙ (λ i. x ∷ pick (eqb (sym t.code_is i) 0) (calls (k i) (sym t.card-is i) (sym lent-next i)) [])

      -- what the call used
      within : (x.used-command ≤ length h.command) × (x.used-data ≤ length h.text)
      unfolding next made
      within = let b = bounded (seen_of p.card) h in (b.command-in, b.text_in)

      some : x.code ≡ 0 → 2 ≤ x.used-command
      unfolding next made
      some = (bounded (seen_of p.card) h).some

      byte : x.code ≤ 255
      unfolding next made
      byte = code-few (seen_of p.card) h

      text-left : length h.text ≡ length text - p.«data»
      unfolding here
      text-left = length-drop p.«data» text

      row_fits : length (call_row (p.calls + 1) q.code x.used-command x.used-data x.written) ≤ 32
      row_fits =
          let n = calls-below in
          let w = within in
          let c = sizes.commands-few in
          let d = sizes.text-few in
          let o = sizes.out-few in
          let l = out-length p out table records s in
          let f = t.out-is.fits in
          let g = written_is in
          let b = byte in
          let e = t.code_is in
          row-few (p.calls + 1) q.code x.used-command x.used-data x.written (omega arith) (omega arith) (omega (arith, command-left)) (omega (arith, text-left))
          (omega arith)

      -- one accepted call more, or none
      accepted-more : accepted_of q.calls q.code ≡ accepted_of p.calls p.code + pick (eqb x.code 0) 1 0
      unfolding accepted_of
      accepted-more = by (eqb q.code 0) ∙ ap (λ (k : ℕ). accepted_of p.calls p.code + pick (eqb k 0) 1 0) t.code_is
        where
          by : (b : Bool) → pick b q.calls (q.calls - 1) ≡ accepted_of p.calls p.code + pick b 1 0
          by true = omega (arith, t.calls_is, all-accepted)
          by false = omega (arith, t.calls_is, all-accepted)

      used-more : 2 * accepted_of q.calls q.code ≤ q.command
      used-more = let a = accepted-more in by (eqb x.code 0) refl a
        where
          by : (b : Bool) → eqb x.code 0 ≡ b → accepted_of q.calls q.code ≡ accepted_of p.calls p.code + pick b 1 0 → 2 * accepted_of q.calls q.code ≤ q.command
          by true e a = let m = some (eqb-true x.code 0 e) in omega (arith, t.command-is, s.used)
          by false e a = omega (arith, t.command-is, s.used)

      records-more : q.records ≤ 10 * accepted_of q.calls q.code
      unfolding next made
      records-more = let m = record-few x in omega (arith, t.records_is.end, s.records-in, accepted-more)

      -- the next piece of each buffer
      next-bytes : written_by (left p out) ≡ take x.written x.out ++ written_by (left q out')
      unfolding written_by
      next-bytes = ap written_by left_is

      next_row : rows_from (p.calls + 1) (left p out) ≡ call_row (p.calls + 1) q.code x.used-command x.used-data x.written ++ rows_from (q.calls + 1) (left q out')
      unfolding rows_from
      next_row =
          let n : suc (p.calls + 1) ≡ q.calls + 1 = let e = t.calls_is in omega arith in
          ap (rows_from (p.calls + 1)) left_is
          ∙ (λ i. call_row (p.calls + 1) (sym t.code_is i) x.used-command x.used-data x.written ++ rows_from (n i) (left q out'))

      next-record : records_by (left p out) ≡ records_of (used_by x.card (did x)) ++ records_by (left q out')
      unfolding uses_by
      next-record = ap records_by left_is ∙ records-append (used_by x.card (did x)) (uses_by (left q out'))

      count-more : accepted_of q.calls q.code + accepted_count (left q out') ≡ accepted_count all
      unfolding accepted_count
      count-more =
          ap (λ (n : ℕ). n + accepted_count (left q out')) accepted-more
          ∙ add_assoc (accepted_of p.calls p.code) (pick (eqb x.code 0) 1 0) (accepted_count (left q out'))
          ∙ ap (λ (xs : List Made). accepted_of p.calls p.code + accepted_count xs) (sym left_is) ∙ s.count

      last_more : last_code_of q.code (left q out') ≡ last_code_of 0 all
      unfolding last_code_of
      last_more = ap (λ (k : ℕ). last_code_of k (left q out')) t.code_is ∙ ap (last_code_of p.code) (sym left_is) ∙ s.last_code

      pub sofar-next : Sofar q out' table' records'
      sofar-next =
          let w = within in
          record {
            command-in = omega (arith, t.command-is, command-left, s.command-in);
            text_in = omega (arith, t.text-is, text-left, s.text_in);
            table-in = omega (arith, t.table_is.end, row_fits, s.table-in, t.calls_is);
            records-in = records-more;
            used = used-more;
            bytes = gather-more (subst (λ (l : List ℕ). Gathering (written_by all) l 0 out₀ out p.out) next-bytes s.bytes) t.out-is;
            rows = gather-more (subst (λ (l : List ℕ). Gathering (rows_from 1 all) l 23 table₀ table p.table) next_row s.rows) t.table_is;
            noted = gather-more (subst (λ (l : List ℕ). Gathering (records_by all) l 0 records₀ records p.records) next-record s.noted) t.records_is;
            count = count-more;
            last_code = last_more;
          }

      -- what is left of the commands falls, or the last was refused
      pub falls : length commands - q.command + pick (eqb q.code 0) 1 0 < length commands - p.command + pick (eqb p.code 0) 1 0
      falls =
          let z : ◌≡◌ {A = ℕ} (pick (eqb p.code 0) 1 0) 1 = ap (λ (b : Bool). pick b 1 0) (eq-eqb p.code 0 zero-code) in
          by (eqb q.code 0) refl z
        where
          by : (b : Bool) → eqb q.code 0 ≡ b → ◌≡◌ {A = ℕ} (pick (eqb p.code 0) 1 0) 1
              → length commands - q.command + pick b 1 0 < length commands - p.command + pick (eqb p.code 0) 1 0
          by true e z = let m = some (sym t.code_is ∙ eqb-true q.code 0 e) in omega (arith, t.command-is)
          by false e z = omega (arith, t.command-is)

  -- ---- the start and the end

  pub sofar-start : Sizes commands text out₀ table₀ records₀ → Sofar (start_of 23) out₀ table₀ records₀
  unfolding left here accepted_of card_in line_in
  sofar-start z =
      record {
        command-in = omega arith;
        text_in = omega arith;
        table-in = lit≤ tt;
        records-in = lit≤ tt;
        used = lit≤ tt;
        bytes = gather_none (omega arith);
        rows = gather_none (omega (arith, z.table-room));
        noted = gather_none (omega arith);
        count = zero-add (accepted_count all);
        last_code = refl;
      }

  none_left : (p : Progress) (out : List ℕ) → (p.code ≡ 0 → length commands ≤ p.command) → left p out ≡ []
  unfolding left here
  none_left p out f = by (eqb p.code 0) refl
    where
      by : (b : Bool) → eqb p.code 0 ≡ b → pick b (calls (read_length - p.calls) (seen_of p.card) (here p commands tray text out)) [] ≡ []
      by false e = refl
      by true e =
          let h = f (eqb-true p.code 0 e) in
          calls-none (read_length - p.calls) (seen_of p.card) (here p commands tray text out) (length-drop p.command commands ∙ (let z : length commands - p.command ≡ 0 = omega arith in z))

  pub sofar-end : Sizes commands text out₀ table₀ records₀ → (p : Progress) (out table records : List ℕ) → Sofar p out table records → (p.code ≡ 0 → length commands ≤ p.command) →
      Finished commands tray text out₀ table₀ records₀ p out table records
  unfolding written_by rows_from uses_by records_of accepted_count last_code_of
  sofar-end z p out table records s f =
      let e = none_left p out f in
      record {
        bytes = gather-all (subst (λ (xs : List Made). Gathering (written_by all) (written_by xs) 0 out₀ out p.out) e s.bytes);
        rows = gather-all (subst (λ (xs : List Made). Gathering (rows_from 1 all) (rows_from (p.calls + 1) xs) 23 table₀ table p.table) e s.rows);
        table-in = omega (arith, s.table-in, table-length p out table records s, z.table-room, s.used, s.command-in, z.commands-few, accepted-most p.calls p.code);
        noted = gather-all (subst (λ (xs : List Made). Gathering (records_by all) (records_by xs) 0 records₀ records p.records) e s.noted);
        count = (let k : accepted_of p.calls p.code ≡ accepted_of p.calls p.code + 0 = omega arith in k)
            ∙ ap (λ (xs : List Made). accepted_of p.calls p.code + accepted_count xs) (sym e) ∙ s.count;
        last_code = ap (last_code_of p.code) (sym e) ∙ s.last_code;
      }

-- ---- what a run begins with, and what it leaves

pub sizes-of : (commands text : List ℕ) {out table table' records c d : List ℕ} {r : ℕ} → c ≡ take read_length commands → d ≡ take read_length text → length out ≡ 65536 → length table ≡ 262400 →
    length records ≡ 81920 → Behind columns 0 table table' r → Sizes c d out table' records
sizes-of commands text ec ed lo lt lr b =
    record {
      commands-few = rw ec (length-take-most read_length commands);
      text-few = rw ed (length-take-most read_length text);
      out-few = omega arith;
      table-room = let l = behind-length b in omega arith;
      records-room = omega arith;
    }
  where
    length-take-most : (n : ℕ) (l : List ℕ) → length (take n l) ≤ n
    length-take-most n l = omega (arith, length-take n l, min-le_left n (length l))

pub leaves : (commands tray text out table records c t d : List ℕ) → c ≡ take read_length commands → t ≡ take read_length tray → d ≡ take read_length text →
    (p : Progress) {out' table₁ table₂ table' records' : List ℕ} {k e r : ℕ} → Behind columns 0 table table₁ r → Finished c t d out table₁ records p out' table₂ records' →
    k ≡ accepted_of p.calls p.code → Behind (end_of k p.code) p.table table₂ table' e →
    RunLeaves (session commands tray text out) out table records out' table' records' (record { written = p.out; printed = e; recorded = p.records })
unfolding table_of
leaves commands tray text out table records c t d ec et ed p {out'} {table₁} {table₂} {table'} {records'} {k} {e} {r} named f ek b =
    let xs = session commands tray text out in
    let same : calls read_length fresh_card (call_of c t d out) ≡ xs = λ i. calls read_length fresh_card (call_of (ec i) (et i) (ed i) out) in
    let at : r ≡ 23 = named.end in
    let bytes = behind-start (subst (λ (ys : List Made). Behind (written_by ys) 0 out out' p.out) same f.bytes) in
    let noted = behind-start (subst (λ (ys : List Made). Behind (records_by ys) 0 records records' p.records) same f.noted) in
    let rows = subst (λ (ys : List Made). Behind (rows_from 1 ys) 23 table₁ table₂ p.table) same f.rows in
    let last : end_of k p.code ≡ end_of (accepted_count xs) (last_code_of 0 xs) =
    ap₂ end_of (ek ∙ f.count ∙ ap accepted_count same) (f.last_code ∙ ap (last_code_of 0) same) in
    let printed = behind-start (behind_more (behind_more (subst (Behind columns 0 table table₁) at named) rows) (subst (λ (l : List ℕ). Behind l p.table table₂ table' e) last b)) in
    record { written = bytes.0; out-is = bytes.1; printed = printed.0; table_is = printed.1; recorded = noted.0; records_is = noted.1 }
