-- A journal that isn't read.
use Rattle.std.proofs.Common.{◌⊎◌, ℕ, List, Err, refl}
use Rattle.journal_folder.specs.Found.{HasOtherWords, IsRefused, IsUnlisted}
use Rattle.journal_folder.specs.Reads.{ReadAs, Reads}
use Rattle.journal_folder.specs.declared.fault.FolderFault.{FolderFault}
use Rattle.journal_folder.specs.declared.fault.FolderFault.TheVariants.{NoFolder, Taken, CantRead, Gone, CantWrite, Damaged, NoHead, LinesGone, OtherWords, OutOfMemory}

-- by what its files have, or since they can't be read
pub not_read : (name words : List ℕ) (reads : List ReadAs) (count : ℕ) (fault : FolderFault)
    → IsRefused fault ⊎ HasOtherWords count words fault → Reads name words (Err fault) reads reads
not_read name words reads count NoFolder is = refl
not_read name words reads count Taken is = ((count, is), refl)
not_read name words reads count (CantRead f) is = ((count, is), refl)
not_read name words reads count (Gone f) is = ((count, is), refl)
not_read name words reads count (CantWrite f) is = ((count, is), refl)
not_read name words reads count (Damaged f line at) is = ((count, is), refl)
not_read name words reads count (NoHead f) is = ((count, is), refl)
not_read name words reads count (LinesGone f a n) is = ((count, is), refl)
not_read name words reads count (OtherWords f) is = ((count, is), refl)
not_read name words reads count OutOfMemory is = refl

-- the folder can't be listed
pub not_listed : (name words : List ℕ) (reads : List ReadAs) (fault : FolderFault) → IsUnlisted fault
    → Reads name words (Err fault) reads reads
not_listed name words reads NoFolder is = refl
not_listed name words reads Taken is = absurd is
not_listed name words reads (CantRead f) is = absurd is
not_listed name words reads (Gone f) is = absurd is
not_listed name words reads (CantWrite f) is = absurd is
not_listed name words reads (Damaged f line at) is = absurd is
not_listed name words reads (NoHead f) is = absurd is
not_listed name words reads (LinesGone f a n) is = absurd is
not_listed name words reads (OtherWords f) is = absurd is
not_listed name words reads OutOfMemory is = refl
