-- The bench examples M1 to M10 of document 01, proved together, as one table of the definitions, by computation. Assumes nothing.
use Prim.Native.Nat.{ℕ}
use mathlib.Core.Path.{◌≡◌, refl}
use mathlib.Core.Bool.{true, false}
use mathlib.Core.List.{List, [], ◌∷◌, ◌++◌}
use lib.ListN.{length}
use Rattle.base.specs.Quoted.{bytes}
use Rattle.checksum.specs.Sum.{sum_of}
use Rattle.std.specs.Prelude.{Some, None}
use Rattle.text.specs.Number.{cursor}
use Rattle.text.specs.Version.{whole_version}
use Rattle.text.specs.Version.{version}
use Rattle.clusters.specs.Cluster.{cluster, need}
use Rattle.clusters.specs.Version.{above}
use Rattle.clusters.specs.Table.{meets}
use Rattle.actions.specs.Action.{install}
use Rattle.manifest.specs.Package.{consistent, read_package}
use Rattle.model.specs.State.{verifying}
use Rattle.model.specs.Calls.{transfer_start, process, finish, given_id}
use Rattle.model.specs.Run.{Made}
use Rattle.model.proofs.examples.Open.{computing}
use Rattle.model.proofs.examples.Transcript.{package_text, Start, loaded_with, ◌gives◌, ◌is_refused_by◌, calls_to_transfer, calls_to_process, calls_to_verifying, from◌calls◌, ◌ends◌, Hold, HoldLooking}

abbrev loaded : Start
loaded = loaded_with 1 100

-- the package of M10
abbrev pub install_text : List ℕ
install_text = package_text "install,30,1.0.0.0,5,51440,20,1.0.4.0" "abcde"

abbrev same_version_text : List ℕ
same_version_text = package_text "update,20,1.0.4.0,0,0,," ""

-- a session with the package of M10 processed: Ready; and Verifying
abbrev pub to_ready : List Made
to_ready = calls_to_transfer 1 install_text ++ calls_to_process 1 5

abbrev pub to_verifying : List Made
to_verifying = to_ready ++ calls_to_verifying

pub record BenchExamples : Type 0 where
  -- "M1 sum of `abcde` is 51440."
  pub m1 : sum_of (bytes "abcde") ≡ 51440
  -- "M2 sum of no bytes is 0."
  pub m2 : sum_of [] ≡ 0
  -- "M3 1.0.0.10 is above 1.0.0.9."
  pub m3 : above (version 1 0 0 10) (version 1 0 0 9) ≡ true
  -- "M4 01.0.0.0 isn't a version."
  pub m4 : whole_version (bytes "01.0.0.0") ≡ None
  -- A.7: "M5 reads: 65536.0.0.0 isn't a version, 0.0.0.4294967295 is and 0.0.0.4294967296 isn't."
  pub m5 : (whole_version (bytes "65536.0.0.0") ≡ None)
      × (whole_version (bytes "0.0.0.4294967295") ≡ Some (version 0 0 0 4294967295, cursor 16))
      × (whole_version (bytes "0.0.0.4294967296") ≡ None)
  -- "M6 a store of 100 with 91 declared takes 9, refuses 10 by 17."
  pub m6 : Hold
      (from loaded calls (transfer_start 91 gives given_id 1 ∷ transfer_start 9 gives given_id 2 ∷ [])
      ∷ from loaded calls (transfer_start 91 gives given_id 1 ∷ transfer_start 10 is_refused_by 17 ∷ [])
      ∷ [])
  -- "M7 an update to the same version: 14."
  pub m7 : Hold (from loaded calls (calls_to_transfer 1 same_version_text ++ process 1 is_refused_by 14 ∷ []) ∷ [])
  -- "M8 Finish in Verifying: 3."
  pub m8 : HoldLooking (λ r. r.state.phase) (from loaded calls (to_verifying ++ finish is_refused_by 3 ∷ []) ends verifying ∷ [])
  -- "M9 least 1.0.4.0 is met by 1.0.4.0, not by 1.0.3.9." A.5: "M9 gains a row: least 1.0.4.0 is not met by 2.0.0.0."
  pub m9 : (meets (cluster 20 (version 1 0 4 0) [] ∷ []) (need 20 (version 1 0 4 0)) ≡ true)
      × (meets (cluster 20 (version 1 0 3 9) [] ∷ []) (need 20 (version 1 0 4 0)) ≡ false)
      × (meets (cluster 20 (version 2 0 0 0) [] ∷ []) (need 20 (version 1 0 4 0)) ≡ false)
  -- "M10 the package .. has 91 bytes and is well formed."
  pub m10 : (length install_text ≡ 91)
      × (read_package install_text
      ≡ consistent
      (record {
        action = install (cluster 30 (version 1 0 0 0) (need 20 (version 1 0 4 0) ∷ []));
        start = 86;
        count = 5;
        sum = 51440;
      }))

pub bench_examples : BenchExamples
unfolding computing
bench_examples =
    record {
      m1 = refl;
      m2 = refl;
      m3 = refl;
      m4 = refl;
      m5 = (refl, refl, refl);
      m6 = refl;
      m7 = refl;
      m8 = refl;
      m9 = (refl, refl, refl);
      m10 = (refl, refl);
    }
