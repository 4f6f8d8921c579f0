-- Every command is built. Assumes nothing.
use Rattle.std.proofs.Common.{◌≡◌, true, refl}
use Rattle.drive.specs.Host.{Cmd, Read, Write, Trim, Flush, all}
use Rattle.drive.specs.Promise.{can, CoreBuilt}

pub all_built : (c : Cmd) → can c ≡ true
unfolding all
all_built (Read from many) = refl
all_built (Write from many bs) = refl
all_built (Trim from many) = refl
all_built Flush = refl

pub core_built : CoreBuilt
unfolding all
core_built (Read from many) t = tt
core_built (Write from many bs) t = tt
core_built (Trim from many) t = tt
core_built Flush t = tt
