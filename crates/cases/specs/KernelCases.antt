-- What running a kernel case comes to.
use Rattle.std.specs.Prelude.{◌≡◌, ℕ, List, [], Option, None, Some, vec_items}
use Rattle.std.specs.Global.{Vec}
use Rattle.std.specs.Str.{bytes_eq}
use Rattle.block.specs.Bytes.{filled}
use Rattle.rijndael.specs.Schedule.{round_keys}
use Rattle.rijndael.specs.Cipher.{encrypt, decrypt}
use Rattle.published.specs.declared.compare.Tally.{Tally}
use Rattle.published.specs.Comparison.{more}
use Rattle.cases.specs.declared.kernel_case.KernelRun.{KernelRun}

-- a value as far as it is read
abbrev pub read : Option (Vec ℕ) → List ℕ
read None = []
read (Some value) = vec_items value

-- Forth of X and back of Y under the key, each compared with the other published block; two values are counted.
pub record Runs (key x y : List ℕ) (before : Tally) (run : KernelRun) (after : Tally) : Type 0 where
  pub forth : run.forth.block ≡ encrypt (round_keys key) (filled x)
  pub back : run.back.block ≡ decrypt (round_keys key) (filled y)
  pub forth_agrees : run.forth.agrees ≡ bytes_eq run.forth.block y
  pub back_agrees : run.back.agrees ≡ bytes_eq run.back.block x
  pub compared : after.compared ≡ more 1 (more 1 before.compared)
