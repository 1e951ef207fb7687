-- Packets of the Internet protocols around what crosses a link (RFC 791, RFC 768, RFC 9293). Then the head that GSMTAP puts before
-- a frame of a mobile network (libosmocore, gsmtap.h). Hosts have addresses of 10.0.0.0/8: no such network is there, the packets
-- only say who sent to whom.
use Rattle.std.specs.Prelude.{ℕ, ◌+◌, ◌-◌, ◌*◌, ◌/◌, ◌%◌, List, [], ◌∷◌, ◌++◌, length, nat_le, not, Bool, true, if◌then◌else◌}
use Rattle.sms_trace_files.specs.declared.capture.host.Host.{Host}
use Rattle.sms_trace_files.specs.declared.capture.segments.Way.{Way}

-- a number of 16 and of 32 bits as a network carries it, the high octet first
abbrev pub network_16 : ℕ → List ℕ
network_16 n = (n / 256 % 256) ∷ (n % 256) ∷ []

abbrev pub network_32 : ℕ → List ℕ
network_32 n = (n / 16777216 % 256) ∷ (n / 65536 % 256) ∷ (n / 256 % 256) ∷ (n % 256) ∷ []

-- ---- the checksum (RFC 1071)

-- the sum of two numbers of 16 bits, in which a carry is added at the low end
unfoldable pub carried : ℕ → ℕ → ℕ
carried a b = if nat_le 65536 (a + b) then (a + b) - 65535 else a + b

-- the sum of octets to that one, two by two. The first of two counts 256 times. A last one without a second is a first one
abbrev pub summed : Bool → ℕ → List ℕ → ℕ
summed is_first sum [] = sum
summed is_first sum (octet ∷ octets) = summed (not is_first) (carried sum (if is_first then 256 * octet else octet)) octets

abbrev pub checksum : List ℕ → ℕ
checksum octets = 65535 - summed true 0 octets

-- ---- hosts

abbrev pub address : Host → List ℕ
address host = 10 ∷ host.network ∷ (host.number / 256 % 256) ∷ (host.number % 256) ∷ []

abbrev pub centre_host : Host
centre_host = record { network = 0; number = 1 }

abbrev pub application_host : ℕ → Host
application_host number = record { network = 1; number = number }

abbrev pub handset_host : ℕ → Host
handset_host number = record { network = 2; number = number }

-- ---- the head of an Internet packet: version 4, 20 octets, one piece, 64 steps to live

abbrev pub internet_fields : ℕ → ℕ → ℕ → Host → Host → List ℕ
internet_fields protocol size check source destination =
    69 ∷ 0 ∷ network_16 size ++ 0 ∷ 0 ∷ 0 ∷ 0 ∷ 64 ∷ protocol ∷ network_16 check ++ address source ++ address destination

abbrev pub internet_head : ℕ → ℕ → Host → Host → List ℕ
internet_head protocol size source destination =
    internet_fields protocol size (checksum (internet_fields protocol size 0 source destination)) source destination

-- ---- a frame: UDP from the port of GSMTAP to it, without a checksum

abbrev pub gsmtap_port : ℕ
gsmtap_port = 4729

abbrev pub datagram_head : ℕ → List ℕ
datagram_head size = network_16 gsmtap_port ++ network_16 gsmtap_port ++ network_16 size ++ network_16 0

-- Version 2, four words, layer 3 as between a base station and its controller; of the radio it only says which way it went.
abbrev pub gsmtap_head : Bool → List ℕ
gsmtap_head is_up = 2 ∷ 4 ∷ 2 ∷ 0 ∷ (if is_up then 64 else 0) ∷ 0 ∷ 0 ∷ 0 ∷ 0 ∷ 0 ∷ 0 ∷ 0 ∷ 0 ∷ 0 ∷ 0 ∷ 0 ∷ []

abbrev pub frame_head : ℕ → Bool → ℕ → List ℕ
frame_head handset is_up size =
    internet_head 17 (44 + size) (if is_up then handset_host handset else centre_host) (if is_up then centre_host else handset_host handset)
    ++ datagram_head (24 + size) ++ gsmtap_head is_up

-- ---- a PDU: TCP from an application's port to that of SMPP, or back

abbrev pub smpp_port : ℕ
smpp_port = 2775

abbrev pub application_port : ℕ
application_port = 49152

-- what is summed up before the segment
abbrev pub segment_front : ℕ → Host → Host → List ℕ
segment_front size source destination = address source ++ address destination ++ 0 ∷ 6 ∷ network_16 size

-- from where to where a segment is sent, and how many octets its sender has sent before and was sent. It is pushed and acknowledged,
-- with a window of 65,535 octets
abbrev pub segment_fields : Way → ℕ → List ℕ
segment_fields way check =
    network_16 way.source_port ++ network_16 way.destination_port ++ network_32 way.sent ++ network_32 way.received
    ++ 80 ∷ 24 ∷ 255 ∷ 255 ∷ network_16 check ++ 0 ∷ 0 ∷ []

abbrev pub segment_checksum : Way → List ℕ → ℕ
segment_checksum way octets =
    checksum (segment_front (20 + length octets) way.source way.destination ++ segment_fields way 0 ++ octets)

abbrev pub segment_head : Way → List ℕ → List ℕ
segment_head way octets =
    internet_head 6 (40 + length octets) way.source way.destination ++ segment_fields way (segment_checksum way octets)

abbrev pub way_of : ℕ → Bool → ℕ → ℕ → Way
way_of application is_up sent received =
    if is_up then record {
      source = application_host application;
      destination = centre_host;
      source_port = application_port;
      destination_port = smpp_port;
      sent = sent;
      received = received;
    } else record {
      source = centre_host;
      destination = application_host application;
      source_port = smpp_port;
      destination_port = application_port;
      sent = sent;
      received = received;
    }
