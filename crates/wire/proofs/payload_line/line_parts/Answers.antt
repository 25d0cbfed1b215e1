use Rattle.std.proofs.Common.{inl, inr, List, ℕ, Option, None, Some, MatchOption, ◌++◌}
use Rattle.wire.specs.Decoding.{IsLineOf, IsRequestLine, IsReplyLine}
use Rattle.wire.proofs.payload_line.line_parts.Goals as goal

-- a payload that is no request has the lines that it has as a reply
as_reply : {X : Type 0} (line_of : X → List ℕ) (payload : List ℕ) (o : Option X) → ((line : List ℕ) → IsRequestLine payload line → ⊥)
    → MatchOption o ((line : List ℕ) → IsReplyLine payload line → ⊥) (λ x. IsReplyLine payload (line_of x))
    → MatchOption o ((line : List ℕ) → IsLineOf payload line → ⊥) (λ x. IsLineOf payload (line_of x))
as_reply line_of payload None none told = λ line is. elim is [
  | inl request ↦ none line request
  | inr reply ↦ told line reply
]
as_reply line_of payload (Some x) none told = inr told

pub returns : goal.returns
returns c = as_reply (λ parts. parts.0.items ++ parts.1.now) c.args.payload.now c.reply_parts.result c.in_default.ensures c.reply_parts.ensures
