-- `rabbit::units::bytes` meets its contract: the bytes of the four words of keystream, one word behind the other.
-- Assumes nothing.
use mathlib.Core.Path.{◌≡◌}
use mathlib.Core.List.{List, [], ◌∷◌}
use Prim.Native.Nat.{ℕ}
use lib.ListN.{get_or}
use Rattle.words.specs.Strings.{bytes_up}
use Rattle.rabbit.specs.declared.Rabbit.{Rabbit}
use Rattle.rabbit.specs.Cipher.{strm, unit}
use borrow.Author.Rules.{rules}
use Rattle.rabbit.proofs.units.bytes.Goals as goal

bytes-are : (s : Rabbit) {z a b c d : List ℕ} → z ≡ strm s → a ≡ bytes_up (get_or z 0 0) → b ≡ bytes_up (get_or z 1 0) → c ≡ bytes_up (get_or z 2 0) → d ≡ bytes_up (get_or z 3 0) →
    (get_or a 0 0 ∷ get_or a 1 0 ∷ get_or a 2 0 ∷ get_or a 3 0 ∷ get_or b 0 0 ∷ get_or b 1 0 ∷ get_or b 2 0 ∷ get_or b 3 0 ∷ get_or c 0 0 ∷ get_or c 1 0 ∷ get_or c 2 0 ∷ get_or c 3 0 ∷ get_or d 0 0 ∷ get_or d 1 0 ∷ get_or d 2 0 ∷ get_or d 3 0 ∷ [])
    ≡ unit s
unfolding unit strm bytes_up
bytes-are s e ha hb hc hd = rw (ha, hb, hc, hd, e)

pub returns : goal.returns
unfolding bytes_up
returns c =
    bytes-are c.args.st c.output-z.ensures c.to_le_bytes-a.ensures c.to_le_bytes-b.ensures c.to_le_bytes-c.ensures c.to_le_bytes-d.ensures
