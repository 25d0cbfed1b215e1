-- A payload has one line at most.
use Rattle.std.proofs.Common.{◌≡◌, ℕ, List, [], false, None, refl, sym, ap, ◌∙◌, inl, inr}
use Rattle.std.proofs.lemmas.Option.{same_Some, none-some}
use Rattle.wire.specs.Frame.{frame}
use Rattle.wire.specs.RequestForm as requests
use Rattle.wire.specs.RequestForm.{Request, Set, SetIf, Append, Remove, Get, Fetch, FetchUnless, Stats, Speak, HasLine, IsFramed, HasPayload, expect_word, line_of, payload_of, text_of, with_text}
use Rattle.wire.specs.ReplyForm as replies
use Rattle.wire.specs.ReplyForm.{kind_of}
use Rattle.wire.specs.Decoding.{IsLineOf, IsRequestLine, IsReplyLine}
use Rattle.wire.specs.Encoding.{Gives, Becomes, is_comment}
use Rattle.wire.specs.Laws.{nothing_given}
use Rattle.wire.specs.PayloadReading as request_reading
use Rattle.wire.specs.Private.ReplyReading.{read_payload, reply_by_letter}
use Rattle.wire.proofs.Fields.{spells_itself}
use Rattle.wire.proofs.RequestPayloads as request_payloads
use Rattle.wire.proofs.ReplyPayloads as reply_payloads

-- no request is read as a reply
unread : (request : Request) → read_payload (payload_of request) ≡ None
unfolding read_payload kind_of reply_by_letter
unread (Set name text) = refl
unread (SetIf name expect text) = refl
unread (Append name text) = refl
unread (Remove name) = refl
unread (Get name) = refl
unread Fetch = refl
unread (FetchUnless known) = refl
unread Stats = refl
unread (Speak version) = refl

one_request : (payload one other : List ℕ) → IsRequestLine payload one → IsRequestLine payload other → one ≡ other
one_request payload one other a b =
    let same = same_Some a.0 b.0 (sym (request_payloads.payload_read a.0 a.1) ∙ ap request_reading.read_payload (sym a.3 ∙ b.3) ∙ request_payloads.payload_read b.0 b.1) in
    a.4 ∙ ap line_of same ∙ sym b.4

one_reply : (payload one other : List ℕ) → IsReplyLine payload one → IsReplyLine payload other → one ≡ other
one_reply payload one other a b =
    let same = same_Some a.0 b.0 (sym (reply_payloads.payload_read a.0 a.1) ∙ ap read_payload (sym a.3 ∙ b.3) ∙ reply_payloads.payload_read b.0 b.1) in
    a.4 ∙ ap replies.line_of same ∙ sym b.4

not_both : (payload one other : List ℕ) → IsRequestLine payload one → IsReplyLine payload other → ⊥
not_both payload one other a b = none-some b.0 (sym (unread a.0) ∙ ap read_payload (sym a.3 ∙ b.3) ∙ reply_payloads.payload_read b.0 b.1)

pub one_line : (payload one other : List ℕ) → IsLineOf payload one → IsLineOf payload other → one ≡ other
one_line payload one other (inl a) (inl b) = one_request payload one other a b
one_line payload one other (inr a) (inr b) = one_reply payload one other a b
one_line payload one other (inl a) (inr b) = absurd (not_both payload one other a b)
one_line payload one other (inr a) (inl b) = absurd (not_both payload other one b a)

-- ---- what was encoded

asks : (request : Request) → is_comment (line_of request) ≡ false
asks (Set name text) = refl
asks (SetIf name expect text) = refl
asks (Append name text) = refl
asks (Remove name) = refl
asks (Get name) = refl
asks Fetch = refl
asks (FetchUnless known) = refl
asks Stats = refl
asks (Speak version) = refl

-- a frame carries its payload, and its numbers fit
has_payload : (request : Request) → HasLine request → IsFramed request → HasPayload request
has_payload (Set name text) has framed = framed.0
has_payload (SetIf name expect text) has framed = (framed.0, has.1)
has_payload (Append name text) has framed = framed.0
has_payload (Remove name) has framed = framed.0
has_payload (Get name) has framed = framed.0
has_payload Fetch has framed = tt
has_payload (FetchUnless known) has framed = has
has_payload Stats has framed = tt
has_payload (Speak version) has framed = tt

becomes : (gives : Gives) (request : Request) → HasLine request → IsFramed request → requests.IsLined request → Becomes gives (line_of request, frame (payload_of request))
becomes gives (Set name text) has framed lined = inr (refl, (Set name text, text, has, refl, inr (lined.2, refl), framed, refl))
becomes gives (SetIf name expect text) has framed lined = inr (refl, (SetIf name expect text, text, has, (expect_word expect, spells_itself expect, refl), inr (lined.2, refl), framed, refl))
becomes gives (Append name text) has framed lined = inr (refl, (Append name text, text, has, refl, inr (lined.2, refl), framed, refl))
becomes gives (Remove name) has framed lined = inr (refl, (Remove name, [], has, refl, inr (lined.2, refl), framed, refl))
becomes gives (Get name) has framed lined = inr (refl, (Get name, [], has, refl, inr (lined.2, refl), framed, refl))
becomes gives Fetch has framed lined = inr (refl, (Fetch, [], has, refl, inr (lined.2, refl), framed, refl))
becomes gives (FetchUnless known) has framed lined = inr (refl, (FetchUnless known, [], has, refl, inr (lined.2, refl), framed, refl))
becomes gives Stats has framed lined = inr (refl, (Stats, [], has, refl, inr (lined.2, refl), framed, refl))
becomes gives (Speak version) has framed lined = inr (refl, (Speak version, [], has, refl, inr (lined.2, refl), framed, refl))

pub decodes : (request : Request) → HasLine request → IsFramed request → requests.IsLined request
    → Becomes nothing_given (line_of request, frame (payload_of request))
    × IsLineOf (payload_of request) (line_of request) × ((line : List ℕ) → IsLineOf (payload_of request) line → line ≡ line_of request)
decodes request has framed lined =
    let line = inl (request, has_payload request has framed, lined, refl, refl) in
    (becomes nothing_given request has framed lined, line, λ other is. one_line (payload_of request) other (line_of request) is line)
