-- `examples::versions::read` is safe: the 28 bytes of a version fit the buffer. Assumes nothing.
use native.Mathlib.Omega.{arith}
use Rattle.text.proofs.Bytes.{version-most}
use Rattle.text.proofs.Meaning.{whole-version-limits}
use Rattle.examples.proofs.versions.read.Goals as goal

pub put_version-requires : goal.put_version-requires
put_version-requires c = omega (arith, version-most c.in-Some.version (search whole-version-limits))
