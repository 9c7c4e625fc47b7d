-- Demand 3 of the C entry: every run of `pipeshear_call` from an array of zeros is the machine's, and a line's stream is one stream. Each answer is that of the card's step.
-- Assumes nothing.
use mathlib.Core.Path.{◌≡◌, refl, ap, sym, subst, ◌∙◌}
use mathlib.Core.Bool.{Bool, true, false}
use mathlib.Core.List.{List, [], ◌∷◌, map}
use Prim.Native.Nat.{ℕ}
use lib.Dec.{eqb}
use lib.ListN.{length, get_or, replicate}
use borrow.Author.Tests.{eqb-true, eqb-false}
use Rattle.card_sizes.specs.Sizes.{card_size}
use Rattle.machine.specs.Machine.{Machine, Call, Seen, step, card_step, fresh_machine, fresh_card}
use Rattle.machine.specs.Calls.{Made, made_of, calls_of, BytesIn, AllBytes}
use Rattle.lists.specs.OneStream.{OneStream}
use Rattle.lists.specs.Counted.{Counted}
use Rattle.lists.specs.Steps.{Steps, none as no_steps, step as one-step}
use Rattle.lists.specs.Parking.{ParkedCalls, SameImages}
use Rattle.lists.proofs.Steps.{steps-bytes, steps-one-stream, steps-counted, steps-parked-calls, steps-same-images}
use Rattle.trace.specs.Trace.{traced, AlikeLists, AllShare}
use Rattle.trace.proofs.Runs.{steps-same-trace, steps-tell-nothing}
use Rattle.uses.specs.Uses.{Unaltered, FreshKeys, KeystreamOnce}
use Rattle.uses.proofs.Once.{steps-keystream-once}
use Rattle.card_layout.specs.Words.{card_in}
use Rattle.card_layout.proofs.Cards.{fresh-words}
use Rattle.card_outcome.specs.declared.Outcome.{Outcome}
use Rattle.card_outcome.specs.Outcomes.{outcome_of, Code, damaged}
use Rattle.card_outcome.specs.Leaves.{out_of, words_of, CallLeaves}
use Rattle.card_outcome.proofs.Refusals.{refused-whole, numbered}
use Rattle.card_outcome.proofs.Every.{Stored, every_call, stored_next, run_of, calls-of, fresh-stored}
use Rattle.pipeshear.specs.Calls.{Result, shown_as, UntouchedOn, EntryPromise}
use Rattle.pipeshear.specs.Runs.{recorded_on, RanOn, none, call}
use Rattle.pipeshear.proofs.Results.{wrong-counts-is, wrong-card-is, as-shown, ran}

module _ (ws : List ℕ) (a : Call) (counts : List ℕ) {code : ℕ} {ws' out' counts' : List ℕ} (h : EntryPromise ws a counts code ws' out' counts') where
  module _ (n : length counts ≡ 3) (m : length ws ≡ card_size) where
    -- what a call leaves whose counts and card are as long as they should be
    shown-is : record { code = code; words = ws'; out = out'; counts = counts' } ≡ shown_as (card_step (card_in ws) a) ws a.out
    shown-is = h.result-is ∙ as-shown ws a counts n m

    code_of : code ≡ (card_step (card_in ws) a).outcome.code
    unfolding shown_as
    code_of = ap (λ (y : Result). y.code) shown-is

    counts_of : counts' ≡ (shown_as (card_step (card_in ws) a) ws a.out).counts
    counts_of = ap (λ (y : Result). y.counts) shown-is

    -- Such a call is one of the engine, so what is said of those is so of it.
    pub called_on : CallLeaves ws a (outcome_of (card_step (card_in ws) a).outcome) ws' out'
    unfolding shown_as
    called_on = record { outcome-is = refl; card-is = h.seen-is n m; words_are = ap (λ (y : Result). y.words) shown-is; out-is = ap (λ (y : Result). y.out) shown-is }

    -- what is recorded of a call is what the card's step shows
    recorded-is : recorded_on a code ws' out' counts' ≡ made_of a (card_step (card_in ws) a)
    unfolding shown_as out_of
    recorded-is =
        λ j. record {
          call = a;
          code = code_of j;
          used-command = get_or (counts_of j) 0 0;
          used-data = get_or (counts_of j) 1 0;
          written = get_or (counts_of j) 2 0;
          out = called_on.out-is j;
          card = h.seen-is n m j;
        }

ran-steps : {ws : List ℕ} {xs : List Made} → RanOn ws xs → length ws ≡ card_size → Steps (card_in ws) xs
ran-steps none m = no_steps
ran-steps (call {ws = ws} {a = a} {counts = k} {xs = xs} n h t) m =
    subst (λ (x : Made). Steps (card_in ws) (x ∷ xs)) (sym (recorded-is ws a k h n m))
    (one-step h.borrowed (subst (λ (s : Seen). Steps s xs) (h.seen-is n m) (ran-steps t (h.size_is ∙ m))))

from-zeros : {xs : List Made} → RanOn (replicate card_size 0) xs → Steps fresh_card xs
from-zeros {xs} h = subst (λ (s : Seen). Steps s xs) fresh-words (ran-steps h refl)

-- Every list of calls of the C entry, refused ones among them, from an array of zeros.
pub one-stream-on : (xs : List Made) → RanOn (replicate card_size 0) xs → OneStream xs
one-stream-on xs h = steps-one-stream xs (from-zeros h)

pub counted-on : (xs : List Made) → RanOn (replicate card_size 0) xs → Counted xs
counted-on xs h = steps-counted xs (from-zeros h)

pub parked-calls-on : (xs : List Made) → RanOn (replicate card_size 0) xs → ParkedCalls xs
parked-calls-on xs h = steps-parked-calls xs (from-zeros h)

-- In any two such lists parks from a line write the same bytes where the line's cipher, position, state and accepted parks before them are the same, whatever else the lists hold.
pub same-images-on : (xs ys : List Made) → RanOn (replicate card_size 0) xs → RanOn (replicate card_size 0) ys → SameImages xs ys
same-images-on xs ys h k = steps-same-images xs ys (from-zeros h) (from-zeros k)

-- In such a list no keystream byte is used twice, where every accepted resume brings an image that a park before it wrote and no two accepted opens, starts and changes were given the same cipher, key
-- and IV.
pub keystream-once-on : (xs : List Made) → RanOn (replicate card_size 0) xs → Unaltered xs → FreshKeys xs → KeystreamOnce xs
keystream-once-on xs h = steps-keystream-once xs (from-zeros h)

-- Two such lists that are alike but for data and for the key and IV bytes that are used leave the same trace: codes, counts, and what is public of the card after each call.
pub trace-tells-nothing-on : (xs ys : List Made) → RanOn (replicate card_size 0) xs → RanOn (replicate card_size 0) ys → AlikeLists (calls_of xs) (calls_of ys) → map traced xs ≡ map traced ys
trace-tells-nothing-on xs ys h k = steps-tell-nothing xs ys (from-zeros h) (from-zeros k)

-- So do two whose calls share no more than what decisions read.
pub same-trace-on : (xs ys : List Made) → RanOn (replicate card_size 0) xs → RanOn (replicate card_size 0) ys → AllShare fresh_machine (calls_of xs) (calls_of ys) → map traced xs ≡ map traced ys
same-trace-on xs ys h k = steps-same-trace xs ys (from-zeros h) (from-zeros k)

-- What the theorems on the two ends of a trunk ask of such a list beside it.
pub run-bytes-on : (xs : List Made) → RanOn (replicate card_size 0) xs → AllBytes xs
run-bytes-on xs h = steps-bytes (from-zeros h)

-- ---- a refusal, whatever was handed in

module _ (ws : List ℕ) (a : Call) (counts : List ℕ) {code : ℕ} {ws' out' counts' : List ℕ} (h : EntryPromise ws a counts code ws' out' counts') (f : code ≡ 0 → ⊥) where
  whole : length counts ≡ 3 → length ws ≡ card_size → UntouchedOn ws a.out counts ws' out' counts'
  unfolding outcome_of shown_as
  whole n m =
      let r = refused-whole ws a (called_on ws a counts h n m) (λ z. f (code_of ws a counts h n m ∙ z)) in
      record {
        words_are = r.words_are;
        out-is = r.out-is;
        counts-are = λ _. counts_of ws a counts h n m ∙ ap (λ (x : Outcome). x.used_command ∷ x.used_data ∷ x.written ∷ []) r.outcome-is;
        counts-stay = λ k. absurd (k n);
      }

  -- A refusal leaves the card's words and out unchanged, three zeros in counts that are three, and other counts unchanged.
  pub refused-whole-on : UntouchedOn ws a.out counts ws' out' counts'
  refused-whole-on = by (eqb (length counts) 3) refl (eqb (length ws) card_size) refl
    where
      by : (x : Bool) → eqb (length counts) 3 ≡ x → (y : Bool) → eqb (length ws) card_size ≡ y → UntouchedOn ws a.out counts ws' out' counts'
      by false e y g =
          let k = eqb-false (length counts) 3 e in
          let q = h.result-is ∙ wrong-counts-is ws a counts k in
          record { words_are = ap (λ (y : Result). y.words) q; out-is = ap (λ (y : Result). y.out) q; counts-are = λ n. absurd (k n); counts-stay = λ _. ap (λ (y : Result). y.counts) q }
      by true e true g = whole (eqb-true (length counts) 3 e) (eqb-true (length ws) card_size g)
      by true e false g =
          let n = eqb-true (length counts) 3 e in
          let q = h.result-is ∙ wrong-card-is ws a counts n (eqb-false (length ws) card_size g) in
          record { words_are = ap (λ (y : Result). y.words) q; out-is = ap (λ (y : Result). y.out) q; counts-are = λ _. ap (λ (y : Result). y.counts) q; counts-stay = λ k. absurd (k n) }

module _ (ws : List ℕ) (a : Call) (counts : List ℕ) {code : ℕ} {ws' out' counts' : List ℕ} (h : EntryPromise ws a counts code ws' out' counts') where
  -- Every code is 0, one of document 01's numbers, or 255, whatever was handed in.
  pub numbered-on : Code code
  unfolding outcome_of
  numbered-on = by (eqb (length counts) 3) refl (eqb (length ws) card_size) refl
    where
      by : (x : Bool) → eqb (length counts) 3 ≡ x → (y : Bool) → eqb (length ws) card_size ≡ y → Code code
      by false e y g = subst Code (sym (ap (λ (r : Result). r.code) (h.result-is ∙ wrong-counts-is ws a counts (eqb-false (length counts) 3 e)))) damaged
      by true e true g =
          let n = eqb-true (length counts) 3 e in
          let m = eqb-true (length ws) card_size g in
          subst Code (sym (code_of ws a counts h n m)) (numbered ws a (called_on ws a counts h n m))
      by true e false g =
          subst Code (sym (ap (λ (r : Result). r.code) (h.result-is ∙ wrong-card-is ws a counts (eqb-true (length counts) 3 e) (eqb-false (length ws) card_size g)))) damaged

-- ---- every list of calls is run

ran-of : (calls : List Call) → BytesIn calls → (ws : List ℕ) (m : Machine) → Stored m ws → RanOn ws (run_of ws calls)
ran-of [] b ws m t = none
ran-of (a ∷ more) b ws m t =
    let s = card_step (card_in ws) a in
    let zeros : List ℕ = 0 ∷ 0 ∷ 0 ∷ [] in
    let t' = stored_next t a b.0 in
    let h = ran ws a zeros b.0 refl t.size (every_call t a b.0) (t'.size ∙ sym t.size) refl in
    subst (λ (x : Made). RanOn ws (x ∷ run_of (words_of s ws) more)) (recorded-is ws a zeros h refl t.size) (call refl h (ran-of more b.1 (words_of s ws) (step m a).machine t'))

pub every-list-on : (calls : List Call) → BytesIn calls → (xs : List Made) × (RanOn (replicate card_size 0) xs × (calls_of xs ≡ calls))
every-list-on calls b = (run_of (replicate card_size 0) calls, (ran-of calls b (replicate card_size 0) fresh_machine fresh-stored, calls-of (replicate card_size 0) calls))
