-- What the definitions of the start waves give, computed: those of StartOrder, from the list up to the waves of a table, and those that
-- the claims are made of. Assumes nothing.
use Prim.Native.Nat.{ℕ}
use mathlib.Core.Path.{refl}
use mathlib.Core.Bool.{true, false}
use mathlib.Core.List.{List, [], ◌∷◌, map}
use lib.Dec.{ltb}
use Rattle.base.proofs.Tables.{◌gives◌, AllHold}
use Rattle.text.specs.Version.{version}
use Rattle.clusters.specs.Cluster.{Cluster, cluster, marked_cluster, need}
use Rattle.clusters.specs.Table.{Table, find}
use Rattle.start_waves.specs.StartOrder.{WaveEntry, wave_of, has_wave, number_behind, next_wave, select, add_wave, others_needed, all, startable, waiting, starts_next, round, rounds, waves_before, closing, start_waves, closing_wave}
use Rattle.start_waves.specs.WaveClaims.{times_listed, present, follows, in_order_behind, in_order, start_wave, before_closing, in_closing, largest, any, has_to_close}
use Rattle.start_waves.specs.WavesReport.{numbers_of}

-- one name that opens every definition that an example reads
unfoldable pub computing_waves : Unit {0}
unfolding find wave_of number_behind select add_wave others_needed all startable round rounds waves_before closing start_waves times_listed in_order_behind in_order largest any numbers_of
computing_waves = tt

-- ---- what is given

-- an entry, and a list of three
abbrev entry : ℕ → ℕ → WaveEntry
entry part wave = record { part = part; wave = wave }

abbrev three : List WaveEntry
three = entry 30 1 ∷ entry 10 2 ∷ entry 20 2 ∷ []

-- a cluster that needs these, each with the least 1.0.0.0
abbrev pub needing : ℕ → List ℕ → Cluster
needing part parts = cluster part (version 1 0 0 0) (map (λ (p : ℕ). need p (version 1 0 0 0)) parts)

-- three waves of one cluster each, and a closing one: a circle, a need of an absent cluster and a need of one that closes
abbrev mixed : Table
mixed =
    needing 10 (20 ∷ [])
    ∷ needing 20 []
    ∷ cluster 30 (version 1 0 0 0) (need 10 (version 1 0 0 0) ∷ need 30 (version 9 0 0 0) ∷ [])
    ∷ needing 40 (50 ∷ [])
    ∷ needing 50 (40 ∷ [])
    ∷ needing 60 (99 ∷ [])
    ∷ needing 70 (40 ∷ 20 ∷ [])
    ∷ []

-- each needs the next
abbrev against_order : Table
against_order = needing 10 (20 ∷ []) ∷ needing 20 (30 ∷ []) ∷ needing 30 [] ∷ []

abbrev parts_of : List Cluster → List ℕ
parts_of cs = map (λ (c : Cluster). c.part) cs

-- ---- the waves of a table

abbrev waves : Table → List ℕ
waves t = numbers_of (start_waves t)

waves-computed : AllHold waves
    ([] gives []
    ∷ mixed gives (20 ∷ 1 ∷ 10 ∷ 2 ∷ 30 ∷ 3 ∷ 40 ∷ 4 ∷ 50 ∷ 4 ∷ 60 ∷ 4 ∷ 70 ∷ 4 ∷ [])
    -- no needs; a need of itself
    ∷ (needing 10 [] ∷ needing 20 [] ∷ []) gives (10 ∷ 1 ∷ 20 ∷ 1 ∷ [])
    ∷ (needing 10 (10 ∷ []) ∷ []) gives (10 ∷ 1 ∷ [])
    -- a circle of two, alone; one that needs a cluster outside; one that is needed
    ∷ (needing 40 (50 ∷ []) ∷ needing 50 (40 ∷ []) ∷ []) gives (40 ∷ 1 ∷ 50 ∷ 1 ∷ [])
    ∷ (needing 10 (20 ∷ 30 ∷ []) ∷ needing 20 (10 ∷ []) ∷ needing 30 [] ∷ []) gives (30 ∷ 1 ∷ 10 ∷ 2 ∷ 20 ∷ 2 ∷ [])
    ∷ (needing 10 (20 ∷ []) ∷ needing 20 (10 ∷ []) ∷ needing 30 (20 ∷ []) ∷ []) gives (10 ∷ 1 ∷ 20 ∷ 1 ∷ 30 ∷ 1 ∷ [])
    -- a chain against the order of part numbers, and along it
    ∷ against_order gives (30 ∷ 1 ∷ 20 ∷ 2 ∷ 10 ∷ 3 ∷ [])
    ∷ (needing 10 [] ∷ needing 20 (10 ∷ []) ∷ needing 30 (20 ∷ []) ∷ []) gives (10 ∷ 1 ∷ 20 ∷ 2 ∷ 30 ∷ 3 ∷ [])
    -- as many waves as clusters: each of these takes a round
    ∷ (needing 10 (20 ∷ []) ∷ needing 20 (30 ∷ []) ∷ needing 30 (40 ∷ []) ∷ needing 40 (50 ∷ []) ∷ needing 50 [] ∷ [])
    gives (50 ∷ 1 ∷ 40 ∷ 2 ∷ 30 ∷ 3 ∷ 20 ∷ 4 ∷ 10 ∷ 5 ∷ [])
    -- needs in several waves: behind the last of these, wherever it stands among the needs
    ∷ (needing 10 [] ∷ needing 20 (10 ∷ []) ∷ needing 30 (10 ∷ 20 ∷ []) ∷ needing 40 (20 ∷ 10 ∷ []) ∷ []) gives (10 ∷ 1 ∷ 20 ∷ 2 ∷ 30 ∷ 3 ∷ 40 ∷ 3 ∷ [])
    -- a need twice; a mark
    ∷ (needing 10 (20 ∷ 20 ∷ []) ∷ needing 20 [] ∷ []) gives (20 ∷ 1 ∷ 10 ∷ 2 ∷ [])
    ∷ (marked_cluster 10 (version 1 0 0 0) (need 20 (version 1 0 0 0) ∷ []) true ∷ needing 20 [] ∷ []) gives (20 ∷ 1 ∷ 10 ∷ 2 ∷ [])
    -- A.5: "a need of a present cluster is a wait whether or not its version meets the least": below the least, and in the next main
    -- version. What waits so does not close: another starts behind it
    ∷ (cluster 10 (version 1 0 0 0) (need 20 (version 1 0 0 1) ∷ []) ∷ needing 20 [] ∷ needing 30 (10 ∷ []) ∷ []) gives (20 ∷ 1 ∷ 10 ∷ 2 ∷ 30 ∷ 3 ∷ [])
    ∷ (needing 10 (20 ∷ []) ∷ cluster 20 (version 2 0 0 0) [] ∷ needing 30 (10 ∷ []) ∷ []) gives (20 ∷ 1 ∷ 10 ∷ 2 ∷ 30 ∷ 3 ∷ [])
    -- a chain that ends at an absent cluster, alone and beside a cluster that starts
    ∷ (needing 10 (20 ∷ []) ∷ needing 20 (99 ∷ []) ∷ []) gives (10 ∷ 1 ∷ 20 ∷ 1 ∷ [])
    ∷ (needing 10 (20 ∷ []) ∷ needing 20 (30 ∷ []) ∷ needing 30 (99 ∷ []) ∷ needing 40 [] ∷ []) gives (40 ∷ 1 ∷ 10 ∷ 2 ∷ 20 ∷ 2 ∷ 30 ∷ 2 ∷ [])
    ∷ [])
unfolding computing_waves
waves-computed = refl

-- ---- the list

wave_of-computed : AllHold (λ (part : ℕ). wave_of part three) (10 gives 2 ∷ 20 gives 2 ∷ 30 gives 1 ∷ 40 gives 0 ∷ 0 gives 0 ∷ [])
unfolding computing_waves
wave_of-computed = refl

-- the first entry counts
first-counts : AllHold (wave_of 10) ([] gives 0 ∷ (entry 10 3 ∷ entry 10 4 ∷ []) gives 3 ∷ (entry 20 5 ∷ entry 10 4 ∷ []) gives 4 ∷ [])
unfolding computing_waves
first-counts = refl

has_wave-computed : AllHold (has_wave (entry 10 1 ∷ entry 20 0 ∷ [])) (10 gives true ∷ 20 gives false ∷ 30 gives false ∷ [])
unfolding computing_waves
has_wave-computed = refl

-- the last entry counts
number_behind-computed : AllHold (number_behind 7) ([] gives 8 ∷ (entry 10 2 ∷ []) gives 3 ∷ (entry 10 5 ∷ entry 20 1 ∷ []) gives 2 ∷ [])
unfolding computing_waves
number_behind-computed = refl

next_wave-computed : AllHold next_wave ([] gives 1 ∷ three gives 3 ∷ [])
unfolding computing_waves
next_wave-computed = refl

select-computed : AllHold (select (λ (n : ℕ). ltb 2 n)) ([] gives [] ∷ (1 ∷ 2 ∷ []) gives [] ∷ (5 ∷ 1 ∷ 3 ∷ 2 ∷ 5 ∷ []) gives (5 ∷ 3 ∷ 5 ∷ []) ∷ [])
unfolding computing_waves
select-computed = refl

add_wave-computed : AllHold (λ (cs : List Cluster). numbers_of (add_wave three cs))
    ([] gives numbers_of three
    ∷ (needing 50 (10 ∷ []) ∷ needing 40 [] ∷ []) gives (30 ∷ 1 ∷ 10 ∷ 2 ∷ 20 ∷ 2 ∷ 50 ∷ 3 ∷ 40 ∷ 3 ∷ [])
    ∷ [])
unfolding computing_waves
add_wave-computed = refl

numbers_of-computed : AllHold numbers_of ([] gives [] ∷ three gives (30 ∷ 1 ∷ 10 ∷ 2 ∷ 20 ∷ 2 ∷ []) ∷ [])
unfolding computing_waves
numbers_of-computed = refl

-- ---- the clusters of a wave

others_needed-computed : AllHold others_needed
    (needing 10 [] gives []
    ∷ needing 10 (10 ∷ []) gives []
    ∷ needing 10 (20 ∷ 10 ∷ 30 ∷ 20 ∷ []) gives (20 ∷ 30 ∷ 20 ∷ [])
    ∷ needing 20 (20 ∷ 10 ∷ 30 ∷ 20 ∷ []) gives (10 ∷ 30 ∷ [])
    ∷ [])
unfolding computing_waves
others_needed-computed = refl

all-computed : AllHold (all (λ (n : ℕ). ltb 2 n))
    ([] gives true ∷ (3 ∷ []) gives true ∷ (2 ∷ []) gives false ∷ (3 ∷ 4 ∷ []) gives true ∷ (3 ∷ 2 ∷ []) gives false ∷ (2 ∷ 3 ∷ []) gives false ∷ [])
unfolding computing_waves
all-computed = refl

-- 10, 20 and 30 have a wave: none needed, itself, one or more that have a wave, and one that has none
startable-computed : AllHold (startable three)
    (needing 40 [] gives true
    ∷ needing 40 (40 ∷ []) gives true
    ∷ needing 40 (10 ∷ 40 ∷ 30 ∷ []) gives true
    ∷ needing 40 (50 ∷ []) gives false
    ∷ needing 40 (10 ∷ 50 ∷ []) gives false
    ∷ needing 40 (50 ∷ 10 ∷ []) gives false
    ∷ needing 10 (20 ∷ []) gives true
    ∷ [])
unfolding computing_waves
startable-computed = refl

waiting-computed : AllHold (λ (part : ℕ). waiting three (needing part [])) (10 gives false ∷ 30 gives false ∷ 40 gives true ∷ [])
unfolding computing_waves
waiting-computed = refl

starts_next-computed : AllHold (starts_next three)
    (needing 40 (10 ∷ []) gives true ∷ needing 40 (50 ∷ []) gives false ∷ needing 10 (20 ∷ []) gives false ∷ needing 10 (50 ∷ []) gives false ∷ [])
unfolding computing_waves
starts_next-computed = refl

-- ---- rounds

round-computed : AllHold (λ (entries : List WaveEntry). numbers_of (round mixed entries))
    ([] gives (20 ∷ 1 ∷ [])
    ∷ (entry 20 1 ∷ []) gives (20 ∷ 1 ∷ 10 ∷ 2 ∷ [])
    -- from a list that is none of the table's rounds: two start, and none
    ∷ (entry 50 1 ∷ []) gives (50 ∷ 1 ∷ 20 ∷ 2 ∷ 40 ∷ 2 ∷ [])
    ∷ (entry 20 1 ∷ entry 10 2 ∷ entry 30 3 ∷ []) gives (20 ∷ 1 ∷ 10 ∷ 2 ∷ 30 ∷ 3 ∷ [])
    ∷ [])
unfolding computing_waves
round-computed = refl

-- with as many rounds, and with a list before them
rounds-computed : AllHold (λ (more : ℕ). numbers_of (rounds more against_order []))
    (0 gives [] ∷ 1 gives (30 ∷ 1 ∷ []) ∷ 2 gives (30 ∷ 1 ∷ 20 ∷ 2 ∷ []) ∷ 3 gives (30 ∷ 1 ∷ 20 ∷ 2 ∷ 10 ∷ 3 ∷ []) ∷ 4 gives (30 ∷ 1 ∷ 20 ∷ 2 ∷ 10 ∷ 3 ∷ []) ∷ [])
unfolding computing_waves
rounds-computed = refl

rounds-behind : AllHold (λ (more : ℕ). numbers_of (rounds more against_order (entry 20 4 ∷ []))) (0 gives (20 ∷ 4 ∷ []) ∷ 1 gives (20 ∷ 4 ∷ 10 ∷ 5 ∷ 30 ∷ 5 ∷ []) ∷ [])
unfolding computing_waves
rounds-behind = refl

before-computed : AllHold (λ (t : Table). numbers_of (waves_before t)) ([] gives [] ∷ mixed gives (20 ∷ 1 ∷ 10 ∷ 2 ∷ 30 ∷ 3 ∷ []) ∷ (needing 10 (99 ∷ []) ∷ []) gives [] ∷ [])
unfolding computing_waves
before-computed = refl

closing-computed : AllHold (λ (t : Table). parts_of (closing t)) ([] gives [] ∷ mixed gives (40 ∷ 50 ∷ 60 ∷ 70 ∷ []) ∷ against_order gives [] ∷ [])
unfolding computing_waves
closing-computed = refl

-- the number behind the last wave, 1 where there is none
closing_wave-computed : AllHold closing_wave ([] gives 1 ∷ mixed gives 4 ∷ against_order gives 4 ∷ (needing 10 (99 ∷ []) ∷ []) gives 1 ∷ [])
unfolding computing_waves
closing_wave-computed = refl

-- ---- what is claimed

times_listed-computed : AllHold (times_listed 10)
    ([] gives 0 ∷ (entry 20 1 ∷ []) gives 0 ∷ (entry 10 1 ∷ []) gives 1 ∷ (entry 10 1 ∷ entry 20 1 ∷ entry 10 2 ∷ []) gives 2 ∷ [])
unfolding computing_waves
times_listed-computed = refl

present-computed : AllHold (present mixed) (10 gives true ∷ 70 gives true ∷ 99 gives false ∷ 0 gives false ∷ 15 gives false ∷ [])
unfolding computing_waves
present-computed = refl

-- behind 10 in wave 2: in the same wave a higher part number, in the next wave any, and no other wave
follows-computed : AllHold (follows (entry 10 2))
    (entry 11 2 gives true
    ∷ entry 10 2 gives false
    ∷ entry 9 2 gives false
    ∷ entry 11 3 gives true
    ∷ entry 9 3 gives true
    ∷ entry 11 1 gives false
    ∷ entry 11 4 gives false
    ∷ entry 11 0 gives false
    ∷ [])
follows-computed = refl

in_order-computed : AllHold in_order
    ([] gives true
    ∷ three gives true
    ∷ (entry 10 1 ∷ []) gives true
    ∷ (entry 10 0 ∷ []) gives false
    ∷ (entry 10 2 ∷ []) gives false
    ∷ (entry 10 1 ∷ entry 20 1 ∷ entry 30 1 ∷ []) gives true
    ∷ (entry 20 1 ∷ entry 10 1 ∷ entry 30 1 ∷ []) gives false
    ∷ (entry 10 1 ∷ entry 30 1 ∷ entry 20 1 ∷ []) gives false
    ∷ (entry 10 1 ∷ entry 5 2 ∷ entry 1 3 ∷ []) gives true
    ∷ (entry 10 1 ∷ entry 5 2 ∷ entry 20 1 ∷ []) gives false
    ∷ (entry 10 1 ∷ entry 20 2 ∷ entry 30 4 ∷ []) gives false
    ∷ [])
unfolding computing_waves
in_order-computed = refl

largest-computed : AllHold (largest (λ (part : ℕ). wave_of part three)) ([] gives 0 ∷ (30 ∷ []) gives 1 ∷ (30 ∷ 10 ∷ 40 ∷ []) gives 2 ∷ (10 ∷ 30 ∷ []) gives 2 ∷ (40 ∷ []) gives 0 ∷ [])
unfolding computing_waves
largest-computed = refl

any-computed : AllHold (any (λ (n : ℕ). ltb 2 n)) ([] gives false ∷ (3 ∷ []) gives true ∷ (2 ∷ []) gives false ∷ (2 ∷ 3 ∷ []) gives true ∷ (3 ∷ 2 ∷ []) gives true ∷ (2 ∷ 1 ∷ []) gives false ∷ [])
unfolding computing_waves
any-computed = refl

start_wave-computed : AllHold (start_wave mixed) (20 gives 1 ∷ 30 gives 3 ∷ 40 gives 4 ∷ 99 gives 0 ∷ [])
unfolding computing_waves
start_wave-computed = refl

before_closing-computed : AllHold (before_closing mixed) (20 gives true ∷ 30 gives true ∷ 40 gives false ∷ 70 gives false ∷ 99 gives false ∷ [])
unfolding computing_waves
before_closing-computed = refl

in_closing-computed : AllHold (in_closing mixed) (20 gives false ∷ 30 gives false ∷ 40 gives true ∷ 70 gives true ∷ 99 gives false ∷ [])
unfolding computing_waves
in_closing-computed = refl

-- none needed, itself, one before the closing wave; a circle, an absent cluster, one that closes
has_to_close-computed : AllHold (has_to_close mixed)
    (needing 80 [] gives false
    ∷ needing 80 (80 ∷ []) gives false
    ∷ needing 60 (60 ∷ []) gives false
    ∷ needing 80 (10 ∷ 30 ∷ []) gives false
    ∷ needing 40 (50 ∷ []) gives true
    ∷ needing 60 (99 ∷ []) gives true
    ∷ needing 80 (10 ∷ 60 ∷ []) gives true
    ∷ needing 80 (60 ∷ 10 ∷ []) gives true
    ∷ [])
unfolding computing_waves
has_to_close-computed = refl
