-- What the commands `pem` and `digest` write.
use Rattle.std.specs.Prelude.{◌≡◌, ℕ, List, None, Some, Option}
use Rattle.spiffe_doc.specs.Authority.{BundleValue}
use Rattle.frame_front.specs.Dump.{Domains, IsDump}
use Rattle.commands.specs.declared.fault.Fault.{Fault}
use Rattle.commands.specs.declared.fault.Fault.TheVariants.{NotInDump}
use Rattle.commands.specs.Input.{IsInput}
use Rattle.dump_views.specs.Pem.{pem_of}
use Rattle.dump_views.specs.Digest.{digest_line_of}
use Rattle.dump_views.specs.Changes.{held_under}
use Rattle.commands.specs.Reading.{IsRead, Unread}
use Rattle.commands.specs.declared.input.Extent.TheVariants.{Any}

-- the X.509 authorities of the domain
abbrev pub PemOf : List ℕ → List ℕ → Option (List ℕ) → Option (List ℕ) → Type 0
PemOf name text left_old left_new =
    (items : Domains) × (bundle : BundleValue) × IsRead Any items left_old left_new × (held_under items name ≡ Some bundle) × (text ≡ pem_of bundle)

-- the dump has no such domain, which is the first name of the command line; or no dump is read
abbrev pub NoPem : List ℕ → Fault → Option (List ℕ) → Option (List ℕ) → Type 0
NoPem name (NotInDump number) left_old left_new = (items : Domains) × IsRead Any items left_old left_new × (held_under items name ≡ None) × (number ≡ 1)
NoPem name fault left_old left_new = Unread Any fault left_old left_new

-- the SHA-256 of the dump
abbrev pub DigestOf : List ℕ → Option (List ℕ) → Option (List ℕ) → Type 0
DigestOf text left_old left_new =
    (input : List ℕ) × (items : Domains) × IsInput Any input left_old left_new × IsDump input items × (text ≡ digest_line_of input)
