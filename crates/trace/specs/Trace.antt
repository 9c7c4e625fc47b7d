-- What a trace shows of a list of calls, and when two lists are alike but for data, keys and IVs (document 02, (vi)).
-- Assumes nothing.
use Rattle.std.specs.Prelude.{◌≡◌, Bool, true, false, List, [], ◌∷◌, map, ℕ, ◌+◌, ◌*◌, ◌^◌, eqb, leb, ltb, length, get_or, take, drop, Ok}
use Rattle.words.specs.Strings.{word_at}
use Rattle.words.specs.Tests.{both, pick}
use Rattle.card_sizes.specs.Sizes.{tray_iv, own_key, own_iv, change_iv, change_at, start_iv}
use Rattle.ciphers.specs.Table.{cipher_at}
use Rattle.command.specs.declared.Command.{Command}
use Rattle.command.specs.declared.Command.TheVariants.{Resume}
use Rattle.command.specs.Rows.{either, among}
use Rattle.command.specs.Decode.{Operands, decode_of, operands_of}
use Rattle.machine.specs.Machine.{Line, Seen, Machine, Call, View, Public, public, from_tray, takes_iv, key_field, cipher_for, blank_key, facts_of, step, fresh_machine}
use Rattle.machine.specs.Calls.{Made}

-- ---- the trace

-- What is shown after a call: its code, its three counts and all that is public of the card: of each line its mode (0 idle, 1 open, 2 loaded), its cipher, its position and that of a change that waits,
-- and the parks.
pub record Trace : Type 0 where
  pub code : ℕ
  pub used-command : ℕ
  pub used-data : ℕ
  pub written : ℕ
  pub card : Public

abbrev pub view_seen : Line → View
view_seen l = record { mode = l.mode; cipher = l.cipher; pos = l.n; due = l.due }

abbrev pub public_seen : Seen → Public
public_seen c = record { lines = map view_seen c.lines; parks = c.parks }

abbrev pub traced : Made → Trace
traced x = record { code = x.code; used-command = x.used-command; used-data = x.used-data; written = x.written; card = public_seen x.card }

-- ---- a command by its bytes, whether or not it is read

-- its operands, where each kind has them
abbrev pub operands_for : ℕ → List ℕ → Operands
operands_for k s =
    record {
      kind = k;
      line = get_or s 1 0;
      cipher = pick (among (1 ∷ 2 ∷ 8 ∷ []) k) (get_or s 2 0) 0;
      key_number = pick (among (1 ∷ 8 ∷ []) k) (get_or s 3 0) (pick (eqb k 7) (get_or s 2 0) 0);
      iv_at = pick (eqb k 1) tray_iv (pick (eqb k 2) own_iv (pick (eqb k 7) change_iv (pick (eqb k 9) start_iv 0)));
      count = pick (eqb k 3) (get_or s 2 0 * 256 + get_or s 3 0) 0;
      position = pick (eqb k 7) (word_at s change_at * 2 ^ 32 + word_at s (change_at + 4)) 0;
    }

abbrev pub operands_at : List ℕ → Operands
operands_at s = operands_for (get_or s 0 0) s

-- byte i is one of the n bytes from byte `from` on
abbrev pub within : (from n i : ℕ) → Bool
within from n i = both (leb from i) (ltb i (from + n))

-- byte i of the command is one that it uses of its own key or of its IV: one within the lengths of cipher c
abbrev pub uses_byte : Operands → (c i : ℕ) → Bool
uses_byte o c i = either (both (eqb o.kind 2) (within own_key (cipher_at c).key i)) (both (takes_iv o) (within o.iv_at (cipher_at c).iv i))

-- ---- two lists of calls

abbrev pub no_call : Call
no_call = record { command = []; tray = []; text = []; out = [] }

-- call n of a list, the first being number 0, and none past its end
abbrev pub call_at : List Call → ℕ → Call
call_at calls n = get_or calls n no_call

abbrev pub machine_on : Machine → List Call → Machine
machine_on m [] = m
machine_on m (a ∷ more) = machine_on (step m a).machine more

-- the operands of call n, and the cipher whose lengths its key and its IV have: the one that an open or a load names, and of a change or a start its line's before the call
abbrev pub operands_in : List Call → ℕ → Operands
operands_in calls n = operands_at (call_at calls n).command

abbrev pub cipher_in : Machine → List Call → ℕ → ℕ
cipher_in m calls n = cipher_for (operands_in calls n) (public (machine_on m (take n calls)))

-- Two lists of calls on a machine that agree, lengths too, but for the data, for what out held, for the key and IV bytes that are used, and for the tray where no key is taken from it.
pub record AlikeFrom (m : Machine) (calls calls' : List Call) : Type 0 where
  -- as many calls, each with as many bytes of command, tray, data and out
  pub as_many : length calls ≡ length calls'
  pub command-length : (n : ℕ) → length (call_at calls n).command ≡ length (call_at calls' n).command
  pub tray-length : (n : ℕ) → length (call_at calls n).tray ≡ length (call_at calls' n).tray
  pub text-length : (n : ℕ) → length (call_at calls n).text ≡ length (call_at calls' n).text
  pub out-length : (n : ℕ) → length (call_at calls n).out ≡ length (call_at calls' n).out
  -- no resume
  pub no-resume : (n : ℕ) → (operands_in calls n).kind ≡ 5 → ⊥
  -- every byte of a command is the same but those that it uses of a key or an IV
  pub command : (n i : ℕ) → uses_byte (operands_in calls n) (cipher_in m calls n) i ≡ false → get_or (call_at calls n).command i 0 ≡ get_or (call_at calls' n).command i 0
  -- where a key is taken from the tray, the bytes of its record beyond the cipher's length are the same
  pub beyond-key : (n : ℕ) → from_tray (operands_in calls n) ≡ true →
      drop (cipher_at (cipher_in m calls n)).key (key_field (operands_in calls n) (call_at calls n)) ≡ drop (cipher_at (cipher_in m calls n)).key (key_field (operands_in calls n) (call_at calls' n))
  -- the keys are all zero within it in both or in neither
  pub blank : (n : ℕ) → blank_key (cipher_in m calls n) (key_field (operands_in calls n) (call_at calls n)) ≡ blank_key (cipher_in m calls n) (key_field (operands_in calls n) (call_at calls' n))

-- and so from a fresh card
abbrev pub AlikeLists : List Call → List Call → Type 0
AlikeLists calls calls' = AlikeFrom fresh_machine calls calls'

-- ---- the least that two lists must share

-- Two calls before which v is public: the command that is read is the same, and no resume, and so is all that a decision reads of the call.
pub record Shares (v : Public) (a b : Call) : Type 0 where
  pub read : decode_of a.command ≡ decode_of b.command
  pub facts : (c : Command) → decode_of a.command ≡ Ok c → facts_of (operands_of c) v a ≡ facts_of (operands_of c) v b
  pub no-resume : (i : ℕ) → decode_of a.command ≡ Ok (Resume i) → ⊥

pub data AllShare : Machine → List Call → List Call → Type 0 where
  none : {m : Machine} → AllShare m [] []
  call : {m : Machine} {a b : Call} {more more' : List Call} → Shares (public m) a b → AllShare (step m a).machine more more' → AllShare m (a ∷ more) (b ∷ more')
