-- Lines that are asked one after another.
use Rattle.std.proofs.Common.{◌≡◌, ◌≢◌, ℕ, ◌+◌, List, [], ◌∷◌, ◌++◌, length, Bool, true, false, Option, Result, Ok, Err, refl, sym, ap, subst, ◌∙◌, arith, append_assoc, append-nil, length-append, inl, inr}
use Rattle.std.specs.Prelude.{◌||◌, ◌⊎◌}
use Rattle.std.specs.List.{flat_map, list_any}
use Rattle.std.specs.Io.KnownBytes.{Appends, Consumes, IsAtEnd}
use Rattle.std.proofs.KnownBytes.{Appends-nil, Appends-trans, Consumes-nil, Consumes-trans}
use Rattle.std.proofs.lemmas.List.{flat_map_more}
use Rattle.std.proofs.lemmas.List.Folds.{list_any-append}
use Rattle.wire.specs.Counted.{next_count}
use Rattle.wire.specs.declared.error.FrontError.TheVariants as front
use Rattle.wire.specs.Encoding.{EncoderState, Gives, Becomes, EncodesNext, Finishes, IsFrameOf, IsBadLine, BeginsWith, BeginsLong, StopsAt}
use Rattle.wire.specs.RequestForm.{IsOneLine}
use Rattle.wire.specs.declared.encoder.EncodeError.{EncodeError}
use Rattle.wire.specs.declared.encoder.EncodeError.TheVariants as encoding
use Rattle.client.specs.Asking.{Exchange, Ends, ends, IsExchange, HasDone, AsksLines, AsksStream, IsGreeting, greeting, greeted, IsNext, EndsAsking, Traffic, no_traffic, traffic, traffic_of, lines_of, count_after, is_refused}
use Rattle.client.specs.Private.Steps.{AsksOne, BreaksOne, ReadsMore, StreamSoFar, fault_of}
use Rattle.client.specs.declared.asking.Asking.{Asking}
use Rattle.client.specs.declared.fault.AskFault.{AskFault}
use Rattle.client.specs.declared.fault.AskFault.TheVariants.{BadLine, Unreadable, Server, Front}
use Rattle.client.proofs.Replies.{each_append}
use Rattle.std.proofs.Math.Bool.{or-false}

-- ---- lists with one exchange more

lines_then : (items : List Exchange) (x : Exchange) (rest : List ℕ) → lines_of (items ++ x ∷ []) ++ rest ≡ lines_of items ++ (x.line ++ 10 ∷ rest)
lines_then items x rest =
    ap (λ lines. lines ++ rest) (sym (flat_map_more (λ (x : Exchange). x.line ++ 10 ∷ []) [] items x)) ∙ append_assoc (lines_of items) (x.line ++ 10 ∷ []) rest
    ∙ ap (λ line. lines_of items ++ line) (append_assoc x.line (10 ∷ []) rest)

count_then : (count : ℕ) (items : List Exchange) (x : Exchange) → count_after count (items ++ x ∷ []) ≡ next_count (count_after count items)
count_then count [] x = refl
count_then count (first ∷ items) x = count_then (next_count count) items x

flat_then : (f : Exchange → List ℕ) (items : List Exchange) (x : Exchange) → flat_map f items ++ f x ≡ flat_map f (items ++ x ∷ []) ++ []
flat_then f items x = flat_map_more f [] items x ∙ sym (append-nil (flat_map f (items ++ x ∷ [])))

any_then : (items : List Exchange) (x : Exchange) → list_any is_refused (items ++ x ∷ []) ≡ (list_any is_refused items || is_refused x)
any_then items x = list_any-append is_refused items (x ∷ []) ∙ ap (λ b. list_any is_refused items || b) (or-false (is_refused x))

-- ---- what a line became

becomes_frame : (gives : Gives) (line request : List ℕ) → Becomes gives (line, request) → request ≢ [] → IsFrameOf gives line request
becomes_frame gives line request (inl none) some = absurd (some none.1)
becomes_frame gives line request (inr is) some = is.1

-- ---- the stream

pub begins : (gives : Gives) (how : Asking) (at : Ends) → StreamSoFar gives how at at (record { kept = []; lines = 0 }) false 0
begins gives how at = record {
  items = [];
  done = record { each = tt; reads = Consumes-nil at.lines; asks = Appends-nil at.to; tells = Consumes-nil at.from; shows = Appends-nil at.out };
  refused_is = refl;
  lines_are = refl;
  each_turn = omega arith;
}

module _ (gives : Gives) (how : Asking) (old : Ends) (lines from to out : Option (List ℕ)) (state : EncoderState) (refused : Bool) (turns : ℕ) (so : StreamSoFar gives how old (ends lines from to out) state refused turns) where
  -- more is done than these exchanges
  does : (rest : List ℕ) (more : Traffic) (lines_new from_new to_new out_new : Option (List ℕ)) → Consumes old.lines lines_new (lines_of so.items ++ rest) → Appends to to_new more.asked → Consumes from from_new more.told → Appends out out_new more.shown
      → HasDone gives how so.items rest more old (ends lines_new from_new to_new out_new)
  does rest more lines_new from_new to_new out_new reads asks tells shows =
      let none = traffic how.form so.items no_traffic in
      let behind = λ (f : Exchange → List ℕ) (m : List ℕ). ap (λ (l : List ℕ). l ++ m) (append-nil (flat_map f so.items)) in
      record {
        each = so.done.each;
        reads = reads;
        asks = subst (Appends old.to to_new) (behind (λ x. (traffic_of how.form x).asked) more.asked) (Appends-trans old.to to to_new none.asked more.asked so.done.asks asks);
        tells = subst (Consumes old.from from_new) (behind (λ x. (traffic_of how.form x).told) more.told) (Consumes-trans old.from from from_new none.told more.told so.done.tells tells);
        shows = subst (Appends old.out out_new) (behind (λ x. (traffic_of how.form x).shown) more.shown) (Appends-trans old.out out out_new none.shown more.shown so.done.shows shows);
      }

  -- ---- an exchange that breaks off

  ends_broken : (fault : AskFault) (request : List ℕ) (lines_new from_new to_new out_new : Option (List ℕ)) (breaks : BreaksOne how fault request from from_new to to_new out out_new) → IsNext (λ line. IsFrameOf gives line request) state.kept lines_new
      → EndsAsking gives how (Err fault) so.items state.kept breaks.done (ends lines_new from_new to_new out_new)
  ends_broken (Server why) request lines_new from_new to_new out_new breaks next = (request, next, breaks.broken)
  ends_broken (Front front.WriteFault) request lines_new from_new to_new out_new breaks next = (request, next, breaks.broken)
  ends_broken (Front front.ReadFault) request lines_new from_new to_new out_new breaks next = absurd breaks.broken.why
  ends_broken (Front front.Memory) request lines_new from_new to_new out_new breaks next = absurd breaks.broken.why
  ends_broken (Front front.BadLength) request lines_new from_new to_new out_new breaks next = absurd breaks.broken.why
  ends_broken (Front front.Truncated) request lines_new from_new to_new out_new breaks next = absurd breaks.broken.why
  ends_broken (Front front.TurnsUsed) request lines_new from_new to_new out_new breaks next = absurd breaks.broken.why
  ends_broken (BadLine n) request lines_new from_new to_new out_new breaks next = absurd breaks.broken.why
  ends_broken (Unreadable n) request lines_new from_new to_new out_new breaks next = absurd breaks.broken.why

  -- an exchange breaks off, of the lines that were read up to here
  is_broken : (fault : AskFault) (request : List ℕ) (lines_new from_new to_new out_new : Option (List ℕ)) → Consumes old.lines lines_new (lines_of so.items ++ state.kept) → BreaksOne how fault request from from_new to to_new out out_new → IsNext (λ line. IsFrameOf gives line request) state.kept lines_new → AsksLines gives how (Err fault) old (ends lines_new from_new to_new out_new)
  is_broken fault request lines_new from_new to_new out_new reads breaks next = record {
    items = so.items;
    rest = state.kept;
    more = breaks.done;
    done = does state.kept breaks.done lines_new from_new to_new out_new reads breaks.asks breaks.tells breaks.shows;
    ends_so = ends_broken fault request lines_new from_new to_new out_new breaks next;
  }

  -- ---- nothing more is asked

  -- the exchanges so far, and these bytes of the lines behind them
  silent : (fault : AskFault) (lines_new : Option (List ℕ)) (more : List ℕ) → Consumes lines lines_new more → EndsAsking gives how (Err fault) so.items (state.kept ++ more) no_traffic (ends lines_new from to out) → AsksLines gives how (Err fault) old (ends lines_new from to out)
  silent fault lines_new more came ends_so = record {
    items = so.items;
    rest = state.kept ++ more;
    more = no_traffic;
    done = record {
      each = so.done.each;
      reads = subst (Consumes old.lines lines_new) (append_assoc (lines_of so.items) state.kept more) (Consumes-trans old.lines lines lines_new (lines_of so.items ++ state.kept) more so.done.reads came);
      asks = so.done.asks;
      tells = so.done.tells;
      shows = so.done.shows;
    };
    ends_so = ends_so;
  }

  -- the next line becomes nothing
  pub stopped : (error : EncodeError) → StopsAt gives error state.lines state.kept → AsksLines gives how (Err (fault_of error)) old (ends lines from to out)
  stopped (encoding.BadLine n) stops = record { items = so.items; rest = state.kept; more = no_traffic; done = so.done; ends_so = (stops.0 ∙ ap next_count so.lines_are, refl, next stops.1) }
    where
      next : BeginsWith (IsBadLine gives) state.kept ⊎ BeginsLong state.kept → IsNext (IsBadLine gives) state.kept lines ⊎ BeginsLong state.kept
      next (inl bad) = inl (inl bad)
      next (inr long) = inr long
  stopped (encoding.Unreadable n) stops = record { items = so.items; rest = state.kept; more = no_traffic; done = so.done; ends_so = (stops.0 ∙ ap next_count so.lines_are, refl, inl stops.1) }
  stopped encoding.Memory stops = record { items = so.items; rest = state.kept; more = no_traffic; done = so.done; ends_so = refl }

  -- no more is read
  pub not_read : (fault : AskFault) (next : EncoderState) (lines_new : Option (List ℕ)) → IsOneLine state.kept → ReadsMore (Err fault) state next lines lines_new → AsksLines gives how (Err fault) old (ends lines_new from to out)
  not_read fault next lines_new one_line (inl (is, none)) = rw is (silent (Front front.ReadFault) lines_new [] none (subst IsOneLine (sym (append-nil state.kept)) one_line, refl))
  not_read fault next lines_new one_line (inr (is, piece, read)) = rw is (silent (Front front.Memory) lines_new piece read refl)

  -- a piece more is read
  pub reads_on : (next : EncoderState) (lines_new : Option (List ℕ)) → ReadsMore (Ok true) state next lines lines_new → StreamSoFar gives how old (ends lines_new from to out) next refused (turns + 1)
  reads_on next lines_new reads =
      let kept : (lines_of so.items ++ state.kept) ++ reads.0 ≡ lines_of so.items ++ next.kept = append_assoc (lines_of so.items) state.kept reads.0 ∙ ap (λ k. lines_of so.items ++ k) (sym reads.2) in
      let long : length ((lines_of so.items ++ state.kept) ++ reads.0) ≡ length (lines_of so.items ++ next.kept) = ap length kept in
      record {
        items = so.items;
        done = record {
          each = so.done.each;
          reads = subst (Consumes old.lines lines_new) kept (Consumes-trans old.lines lines lines_new (lines_of so.items ++ state.kept) reads.0 so.done.reads reads.4);
          asks = so.done.asks;
          tells = so.done.tells;
          shows = so.done.shows;
        };
        refused_is = so.refused_is;
        lines_are = reads.3 ∙ so.lines_are;
        each_turn = omega (arith, so.each_turn, long, reads.1, length-append (lines_of so.items ++ state.kept) reads.0);
      }

  -- ---- the last line

  module _ (lines_new : Option (List ℕ)) (none : Consumes lines lines_new []) (at_end : IsAtEnd lines_new) where
    at_last : Consumes old.lines lines_new (lines_of so.items ++ state.kept)
    at_last = subst (Consumes old.lines lines_new) (append-nil (lines_of so.items ++ state.kept)) (Consumes-trans old.lines lines lines_new (lines_of so.items ++ state.kept) [] so.done.reads none)

    -- it becomes nothing
    last_none : (fault : AskFault) → EndsAsking gives how (Err fault) so.items state.kept no_traffic (ends lines_new from to out) → AsksLines gives how (Err fault) old (ends lines_new from to out)
    last_none fault ends_so = record {
      items = so.items;
      rest = state.kept;
      more = no_traffic;
      done = record { each = so.done.each; reads = at_last; asks = so.done.asks; tells = so.done.tells; shows = so.done.shows };
      ends_so = ends_so;
    }

    pub last_stopped : (error : EncodeError) (written : List ℕ) → Finishes gives (Err error) state written → AsksLines gives how (Err (fault_of error)) old (ends lines_new from to out)
    last_stopped (encoding.BadLine n) written stops = last_none (BadLine n) (stops.0 ∙ ap next_count so.lines_are, refl, inl (inr (at_end, stops.1)))
    last_stopped (encoding.Unreadable n) written stops = last_none (Unreadable n) (stops.0 ∙ ap next_count so.lines_are, refl, inr (at_end, stops.1))
    last_stopped encoding.Memory written stops = last_none (Front front.Memory) refl

    -- it is asked
    module _ (request : List ℕ) (becomes : Becomes gives (state.kept, request)) (from_new to_new out_new : Option (List ℕ)) where
      pub last_asked : (one : Bool) → IsOneLine state.kept → AsksOne how request one from from_new to to_new out out_new → AsksLines gives how (Ok (refused || one)) old (ends lines_new from_new to_new out_new)
      last_asked one one_line asks =
          let x : Exchange = record { line = state.kept; request = request; transient = asks.transient; replies = asks.replies } in
          record {
            items = so.items;
            rest = state.kept;
            more = traffic_of how.form x;
            done = does state.kept (traffic_of how.form x) lines_new from_new to_new out_new at_last asks.asks asks.tells asks.shows;
            ends_so = (
              at_end,
              x,
              ((one_line, becomes), asks.taken),
              refl,
              refl,
              ap (λ b. b || one) so.refused_is ∙ ap (λ b. list_any is_refused so.items || b) asks.refused_is,
            );
          }

      pub last_broken : (fault : AskFault) → BreaksOne how fault request from from_new to to_new out out_new → AsksLines gives how (Err fault) old (ends lines_new from_new to_new out_new)
      last_broken fault breaks = is_broken fault request lines_new from_new to_new out_new at_last breaks (inr (at_end, becomes_frame gives state.kept request becomes breaks.some))

  -- ---- one line more

  module _ (next : EncoderState) (request : List ℕ) (encodes : EncodesNext gives (Ok true) state next request) where
    pub goes_on : (from_new to_new out_new : Option (List ℕ)) (one : Bool) → AsksOne how request one from from_new to to_new out out_new → StreamSoFar gives how old (ends lines from_new to_new out_new) next (refused || one) (turns + 1)
    goes_on from_new to_new out_new one asks =
        let x : Exchange = record { line = encodes.0; request = request; transient = asks.transient; replies = asks.replies } in
        let kept : lines_of so.items ++ state.kept ≡ lines_of (so.items ++ x ∷ []) ++ next.kept = ap (λ k. lines_of so.items ++ k) encodes.1 ∙ sym (lines_then so.items x next.kept) in
        let long : length (lines_of so.items ++ state.kept) ≡ length (lines_of (so.items ++ x ∷ []) ++ next.kept) = ap length kept in
        let does_one = does state.kept (traffic_of how.form x) lines from_new to_new out_new so.done.reads asks.asks asks.tells asks.shows in
        record {
          items = so.items ++ x ∷ [];
          done = record {
            each = each_append (IsExchange gives how) so.items (x ∷ []) so.done.each ((encodes.2, asks.taken), tt);
            reads = subst (Consumes old.lines lines) kept so.done.reads;
            asks = subst (Appends old.to to_new) (flat_then (λ x. (traffic_of how.form x).asked) so.items x) does_one.asks;
            tells = subst (Consumes old.from from_new) (flat_then (λ x. (traffic_of how.form x).told) so.items x) does_one.tells;
            shows = subst (Appends old.out out_new) (flat_then (λ x. (traffic_of how.form x).shown) so.items x) does_one.shows;
          };
          refused_is = ap (λ b. b || one) so.refused_is ∙ ap (λ b. list_any is_refused so.items || b) asks.refused_is ∙ sym (any_then so.items x);
          lines_are = encodes.3 ∙ ap next_count so.lines_are ∙ sym (count_then 0 so.items x);
          each_turn = omega (arith, so.each_turn, long, length-append so.items (x ∷ []));
        }

    pub breaks_off : (fault : AskFault) (from_new to_new out_new : Option (List ℕ)) → BreaksOne how fault request from from_new to to_new out out_new → AsksLines gives how (Err fault) old (ends lines from_new to_new out_new)
    breaks_off fault from_new to_new out_new breaks =
        is_broken fault request lines from_new to_new out_new so.done.reads breaks (inl (encodes.0, next.kept, encodes.1, encodes.2.0, becomes_frame gives encodes.0 request encodes.2.1 breaks.some))

-- behind the greeting
pub greeted_first : (gives : Gives) (how : Asking) (old mid new : Ends) (result : Result Bool AskFault) → AsksLines gives how result mid new → IsGreeting old mid greeting greeted → AsksStream gives how result old new
greeted_first gives how old mid new (Ok refused) asks hello = (mid, hello, asks)
greeted_first gives how old mid new (Err fault) asks hello = inr (mid, hello, asks)
