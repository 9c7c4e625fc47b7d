-- The edges of documents 01 and 02 as rows: the code that the machine gives, and the code that the documents say.
-- Assumes nothing.
use Rattle.std.specs.Prelude.{List, [], ◌∷◌, ◌++◌, ℕ, zero, suc, ◌+◌, ◌-◌, ◌/◌, ◌^◌, replicate, take}
use Rattle.command.specs.declared.Cipher.TheVariants.{Zuc}
use Rattle.command.specs.declared.Command.TheVariants.{Tray, Crypt, Park, Change}
use Rattle.cases.specs.Table.{Row, ◌is◌}
use Rattle.machine.specs.Machine.{Public, Effect, refuse, put, crypt, park, resume, change, start, decided, no_view}
use Rattle.machine.specs.Parks.{fresh_parks}

-- a refusal's number, and 0 of an accepted command
abbrev code_of : Effect → ℕ
code_of (refuse k) = k
code_of (put i l size) = 0
code_of (crypt i n size) = 0
code_of (park i size) = 0
code_of (resume i l k size) = 0
code_of (change i p s size) = 0
code_of (start i iv size) = 0

abbrev zeros_of : ℕ → List ℕ
zeros_of n = replicate n 0

-- line 0 open at position n, with a change that waits at d or none (0), and idle
abbrev open_at : (n d : ℕ) → Public
open_at n d = record { lines = record { mode = 1; cipher = 1; pos = n; due = d } ∷ []; parks = fresh_parks }

abbrev all_idle : Public
all_idle = record { lines = no_view ∷ []; parks = fresh_parks }

-- count bytes at position n, with so many bytes of data and of out
unfoldable pub crypting : ℕ → ℕ → ℕ → ℕ → ℕ
crypting n count text out = code_of (decided (Crypt 0 count) (open_at n 0) (record { command = []; tray = []; text = zeros_of text; out = zeros_of out }))

-- and where a change waits at d, with so many bytes of data and of out
unfoldable pub spanning : (n d count lent : ℕ) → ℕ
spanning n d count lent = code_of (decided (Crypt 0 count) (open_at n d) (record { command = []; tray = []; text = zeros_of lent; out = zeros_of lent }))

-- a park with so many bytes of out, and one where a change waits
unfoldable pub parking : ℕ → ℕ
parking out = code_of (decided (Park 0) (open_at 5 0) (record { command = []; tray = []; text = []; out = zeros_of out }))

unfoldable pub parking_before : (d out : ℕ) → ℕ
parking_before d out = code_of (decided (Park 0) (open_at 5 d) (record { command = []; tray = []; text = []; out = zeros_of out }))

-- a tray of so many bytes, each record of which has the key 1, 0, 0, ..
abbrev records : ℕ → List ℕ
records zero = []
records (suc n) = 1 ∷ zeros_of 31 ++ records n

abbrev pub tray_of : ℕ → List ℕ
tray_of n = take n (records (suc (n / 32)))

-- an open with key number k of it
unfoldable pub opening : ℕ → ℕ → ℕ
opening tray k = code_of (decided (Tray 0 Zuc k) all_idle (record { command = zeros_of 20; tray = tray_of tray; text = []; out = [] }))

-- a change at position p of a line at n where one waits at d or none, with the first key of a tray
unfoldable pub changing : (n d p tray : ℕ) → ℕ
changing n d p tray = code_of (decided (Change 0 0 p) (open_at n d) (record { command = zeros_of 27; tray = tray_of tray; text = []; out = [] }))

unfoldable pub table : List Row
table =
    -- the last position, and one past it
    (crypting (2 ^ 36 - 1) 1 1 1 is 0)
    ∷ (crypting (2 ^ 36 - 1) 2 2 2 is 13)
    -- count 0 is accepted everywhere
    ∷ (crypting 0 0 0 0 is 0)
    ∷ (crypting (2 ^ 36) 0 0 0 is 0)
    ∷ (crypting (2 ^ 36) 1 1 1 is 13)
    -- 13 before 11 before 12
    ∷ (crypting (2 ^ 36) 1 0 0 is 13)
    ∷ (crypting 0 5 4 4 is 11)
    ∷ (crypting 0 5 5 4 is 12)
    ∷ (crypting 0 5 5 5 is 0)
    -- room for an image
    ∷ (parking 165 is 12)
    ∷ (parking 166 is 0)
    -- trays
    ∷ (opening 8192 255 is 0)
    ∷ (opening 8224 0 is 9)
    ∷ (opening 0 0 is 10)
    ∷ (opening 32 0 is 0)
    ∷ (opening 32 1 is 10)
    ∷ (opening 33 0 is 9)
    -- a change at the line's position, below it, at 2^36, and above that
    ∷ (changing 5 0 5 32 is 0)
    ∷ (changing 5 0 4 32 is 18)
    ∷ (changing 5 0 (2 ^ 36) 32 is 0)
    ∷ (changing 5 0 (2 ^ 36 + 1) 32 is 18)
    ∷ (changing (2 ^ 36) 0 (2 ^ 36) 32 is 0)
    ∷ (changing (2 ^ 36) 0 (2 ^ 36 - 1) 32 is 18)
    ∷ (changing 0 0 0 32 is 0)
    -- 17 before 18 before 9 before 10
    ∷ (changing 5 6 6 32 is 17)
    ∷ (changing 5 6 4 33 is 17)
    ∷ (changing 5 0 4 33 is 18)
    ∷ (changing 5 0 5 33 is 9)
    ∷ (changing 5 0 5 0 is 10)
    -- a park where one waits: 17 before 12
    ∷ (parking_before 6 166 is 17)
    ∷ (parking_before 6 165 is 17)
    -- 13 in each stream by itself: a change that comes due at the end of the old one, or before it
    ∷ (spanning (2 ^ 36 - 1) (2 ^ 36) 1 1 is 0)
    ∷ (spanning (2 ^ 36 - 1) (2 ^ 36) 9 9 is 0)
    ∷ (spanning (2 ^ 36 - 4) (2 ^ 36 - 3) 9 9 is 0)
    -- 13 before 11 in the new one too, by counts that no command has; and in the old one, by a change above 2^36, which no card has
    ∷ (spanning 5 6 (2 ^ 36 + 1) 0 is 11)
    ∷ (spanning 5 6 (2 ^ 36 + 2) 0 is 13)
    ∷ (spanning (2 ^ 36 - 1) (2 ^ 36 + 2) 2 2 is 13)
    ∷ []
