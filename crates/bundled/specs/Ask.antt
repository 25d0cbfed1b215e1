-- What the command `ask` does to its streams.
use Rattle.std.specs.Prelude.{◌≡◌, ◌⊎◌, ℕ, List, [], ◌∷◌, map, codes, Option, Some, None}
use Rattle.hex.specs.Hex.{encode_lower}
use Rattle.sha2.specs.Sha256.{sha256}
use Rattle.frame_front.specs.Dump.{Domains, IsDump}
use Rattle.server.specs.Serve.{IsLoadFault}
use Rattle.command_line.specs.declared.wanted.Inquiry.{Inquiry}
use Rattle.command_line.specs.declared.wanted.ReplyStyle.{ReplyStyle}
use Rattle.command_line.specs.declared.wanted.ReplyStyle.TheVariants as style
use Rattle.commands.specs.Ask.{Asks, AsksWords, ServerEnds}
use Rattle.commands.specs.Encode.{of_files}
use Rattle.commands.specs.Fault.{fault_line}
use Rattle.wire.specs.Output.{Tells}
use Rattle.commands.specs.Streams.{Streams}
use Rattle.commands.specs.declared.fault.Fault.{Fault}
use Rattle.commands.specs.declared.fault.Fault.TheVariants.{Server}
use Rattle.commands.specs.declared.fault.ServerFault.TheVariants.{NoConnection}
use Rattle.client.specs.declared.asking.Asking.{Asking}
use Rattle.client.specs.declared.asking.Form.{Form}
use Rattle.client.specs.declared.asking.Form.TheVariants.{Lines, Texts, Frames}

-- frames if replies are wanted raw, and texts if only the bundle of a get is wanted
abbrev pub form : ReplyStyle → Form
form style.Lines = Lines
form style.Raw = Frames
form style.Text = Texts

abbrev pub asking : Inquiry → Asking
asking inquiry = record { form = form inquiry.style; retries = inquiry.retries }

-- without words the lines of the input are asked; words are one request, and the input is not read
abbrev pub AsksAll : Asking → List (List ℕ) → ℕ → Streams → Streams → ServerEnds → ServerEnds → Type 0
AsksAll how [] status old new server_old server_new = Asks of_files how status old new server_old server_new
AsksAll how (word ∷ words) status old new server_old server_new =
    (new.input ≡ old.input) × AsksWords of_files how (word ∷ words) status old.output new.output old.error new.error server_old server_new

-- the digest of a dump that is known, in hexadecimal digits, if one is
abbrev pub IsKnown : {A : Type 0} → Option A → Option (List ℕ) → Type 0
IsKnown None known = known ≡ None
IsKnown (Some file) known = (dump : List ℕ) × (items : Domains) × IsDump dump items × (known ≡ Some (encode_lower (sha256 dump)))

-- the words that are asked: those of the inquiry, or a fetch unless the digest that is known
abbrev pub asked_words : Inquiry → Option (List ℕ) → List (List ℕ)
asked_words inquiry None = map (λ word. word.now) inquiry.words.items
asked_words inquiry (Some digest) = codes "fetch" ∷ codes "unless" ∷ digest ∷ []

-- nothing is read or written, but for why
abbrev pub IsNotAsked : Fault → ℕ → Streams → Streams → Type 0
IsNotAsked fault status old new = (status ≡ 1) × (new.input ≡ old.input) × (new.output ≡ old.output) × Tells old.error new.error (fault_line fault)

-- The file of the dump that is known cannot be read, or holds no dump; or no server listens. Or one is asked, whose ends are not known.
abbrev pub AskRun : Inquiry → ℕ → Streams → Streams → Type 0
AskRun inquiry status old new =
    ((fault : Fault) × (IsLoadFault fault ⊎ (fault ≡ Server NoConnection)) × IsNotAsked fault status old new)
    ⊎ ((known : Option (List ℕ)) × IsKnown inquiry.unless known
    × (server_old : ServerEnds) × (server_new : ServerEnds) × AsksAll (asking inquiry) (asked_words inquiry known) status old new server_old server_new)
